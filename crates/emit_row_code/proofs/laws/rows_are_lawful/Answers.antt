use Rattle.emit_row_code.proofs.lemmas.LawfulLaws.{rows_are_lawful}
use Rattle.emit_row_code.proofs.laws.rows_are_lawful.Goals as goal

pub returns : goal.returns
returns c = rows_are_lawful c.row_ops_are_writable.ensures
