use Rattle.right_system_nodes.proofs.Pieces as proof
use Rattle.right_system_nodes.proofs.laws.pieces_are_right.Goals as goal

pub returns : goal.returns
returns c = proof.pieces_are_right c.locals_are_sound.ensures (record {
  values = c.values_are_given.ensures;
  memories = c.memories_are_given.ensures;
  rings = c.rings_are_given.ensures;
  triggers = c.triggers_are_remembered.ensures;
  calls = c.calls_are_acts.ensures;
  updates = c.updates_are_acts.ensures;
  resets = c.resets_are_acts.ensures;
})
