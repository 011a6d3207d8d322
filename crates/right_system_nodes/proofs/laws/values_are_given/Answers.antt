use Rattle.right_system_nodes.proofs.EmittedPieces as proof
use Rattle.right_system_nodes.proofs.laws.values_are_given.Goals as goal

pub returns : goal.returns
returns c = proof.values_are_given c.locals_are_sound.ensures (record {
  computed = c.rows_are_computed.ensures;
  returns = c.returns_are_few.ensures;
  activity = c.activity_is_tested.ensures;
  hits = c.hits_are_tested.ensures;
  both = c.both_are_tested.ensures;
  oldest = c.oldest_is_read.ensures;
  stored = c.values_are_stored.ensures;
  reset = c.values_are_reset.ensures;
})
