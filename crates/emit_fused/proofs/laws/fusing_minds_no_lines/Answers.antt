use Rattle.emit_fused.proofs.FusedLines as proof
use Rattle.emit_fused.proofs.laws.fusing_minds_no_lines.Goals as goal

pub returns : goal.returns
returns c = proof.fusing_minds_no_lines
