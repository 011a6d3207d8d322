use Rattle.right_claim.proofs.WholeCode as proof
use Rattle.right_claim.proofs.laws.some_code_is_right.Goals as goal

pub returns : goal.returns
returns c = proof.whole_code c.one_run.ensures c.needs_are_least.ensures c.profiles_are_one.ensures
