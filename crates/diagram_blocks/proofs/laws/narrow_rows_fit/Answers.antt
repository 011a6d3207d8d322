use Rattle.diagram_blocks.proofs.Fits as proof
use Rattle.diagram_blocks.proofs.laws.narrow_rows_fit.Goals as goal

pub returns : goal.returns
returns c = proof.narrow_rows_fit
