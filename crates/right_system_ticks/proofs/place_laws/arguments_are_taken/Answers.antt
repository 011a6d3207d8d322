use Rattle.right_system_ticks.proofs.TakenArguments as proof
use Rattle.right_system_ticks.proofs.place_laws.arguments_are_taken.Goals as goal

pub returns : goal.returns
returns c = proof.arguments_are_taken
