use Rattle.right_system_nodes.proofs.EmittedPieces as proof
use Rattle.right_system_nodes.proofs.laws.triggers_are_remembered.Goals as goal

pub returns : goal.returns
returns c = proof.triggers_are_remembered c.locals_are_sound.ensures c.triggers_are_stored.ensures
