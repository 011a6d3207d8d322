use Rattle.emit_row_code.proofs.lemmas.DepthLaws.{rows_are_shallow}
use Rattle.emit_row_code.proofs.laws.rows_are_shallow.Goals as goal

pub returns : goal.returns
returns c = rows_are_shallow
