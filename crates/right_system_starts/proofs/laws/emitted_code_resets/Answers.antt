use Rattle.right_system_starts.proofs.EmittedRenewals as proof
use Rattle.right_system_starts.proofs.laws.emitted_code_resets.Goals as goal

pub returns : goal.returns
returns c = proof.emitted_code_resets c.locals_are_lawful.ensures
