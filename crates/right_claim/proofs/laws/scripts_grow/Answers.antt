use Rattle.right_claim.proofs.ScriptSteps as proof
use Rattle.right_claim.proofs.laws.scripts_grow.Goals as goal

pub returns : goal.returns
returns c = proof.scripts_grow
