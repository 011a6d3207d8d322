use Rattle.emit_inlined.proofs.LinesInlined as proof
use Rattle.emit_inlined.proofs.laws.inlining_minds_no_lines.Goals as goal

pub returns : goal.returns
returns c = proof.inlining_minds_no_lines
