use Rattle.right_system_nodes.proofs.EmittedPieces as proof
use Rattle.right_system_nodes.proofs.laws.calls_are_acts.Goals as goal

pub returns : goal.returns
returns c = proof.calls_are_acts c.locals_are_sound.ensures c.activity_is_tested.ensures c.calls_are_made.ensures
