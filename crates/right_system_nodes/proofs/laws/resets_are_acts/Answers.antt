use Rattle.right_system_nodes.proofs.EmittedPieces as proof
use Rattle.right_system_nodes.proofs.laws.resets_are_acts.Goals as goal

pub returns : goal.returns
returns c = proof.resets_are_acts c.locals_are_sound.ensures c.activity_is_tested.ensures c.resets_are_called.ensures
