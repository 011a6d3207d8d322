use Rattle.right_claim.proofs.ShapeLines as proof
use Rattle.right_claim.proofs.laws.shape_means_no_lines.Goals as goal

pub returns : goal.returns
returns c = proof.shape_means_no_lines
