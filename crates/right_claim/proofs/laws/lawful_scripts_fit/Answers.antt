use Rattle.right_claim.proofs.FittingTraces as proof
use Rattle.right_claim.proofs.laws.lawful_scripts_fit.Goals as goal

pub returns : goal.returns
returns c = proof.lawful_scripts_fit
