use Rattle.right_claim.proofs.ScriptSteps as proof
use Rattle.right_claim.proofs.laws.lawful_scripts_run.Goals as goal

pub returns : goal.returns
returns c = proof.lawful_scripts_run c.lawful_scripts_fit.ensures c.one_run.ensures
