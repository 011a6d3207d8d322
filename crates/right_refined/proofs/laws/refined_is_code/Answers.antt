use Rattle.right_refined.proofs.RefinedCode as proof
use Rattle.right_refined.proofs.laws.refined_is_code.Goals as goal

pub returns : goal.returns
returns c = proof.refined_is_code c.profiles_are_one.ensures
