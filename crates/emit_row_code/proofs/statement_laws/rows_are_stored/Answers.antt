use Rattle.emit_row_code.proofs.lemmas.StatementLaws.{rows_are_stored}
use Rattle.emit_row_code.proofs.statement_laws.rows_are_stored.Goals as goal

pub returns : goal.returns
returns c = rows_are_stored c.rows_are_computed.ensures
