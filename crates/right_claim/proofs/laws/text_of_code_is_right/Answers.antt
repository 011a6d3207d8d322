use Rattle.right_claim.proofs.ShapeLines as proof
use Rattle.right_claim.proofs.laws.text_of_code_is_right.Goals as goal

pub returns : goal.returns
returns c = proof.text_of_code_is_right c.lines_mean_nothing.ensures
