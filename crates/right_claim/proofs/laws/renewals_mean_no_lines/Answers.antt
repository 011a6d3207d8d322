use Rattle.right_claim.proofs.RowLines as proof
use Rattle.right_claim.proofs.laws.renewals_mean_no_lines.Goals as goal

pub returns : goal.returns
returns c = proof.renewals_mean_no_lines c.lines_mean_nothing.ensures
