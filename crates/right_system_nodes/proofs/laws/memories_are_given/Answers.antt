use Rattle.right_system_nodes.proofs.EmittedPieces as proof
use Rattle.right_system_nodes.proofs.laws.memories_are_given.Goals as goal

pub returns : goal.returns
returns c =
    proof.memories_are_given c.locals_are_sound.ensures
    (record {
      activity = c.activity_is_tested.ensures;
      hits = c.hits_are_tested.ensures;
      both = c.both_are_tested.ensures;
    }) c.memories_are_stored.ensures
