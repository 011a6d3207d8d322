use Rattle.emit_row_code.proofs.lemmas.ReadingLaws.{rows_read_their_leaves}
use Rattle.emit_row_code.proofs.laws.rows_read_their_leaves.Goals as goal

pub returns : goal.returns
returns c = rows_read_their_leaves
