use Rattle.right_program_interfaces.proofs.KnownFunctions as proof
use Rattle.right_program_interfaces.proofs.laws.functions_are_known.Goals as goal

pub returns : goal.returns
returns c = proof.functions_are_known
