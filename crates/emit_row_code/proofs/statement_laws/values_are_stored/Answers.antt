use Rattle.emit_row_code.proofs.lemmas.StatementLaws.{values_are_stored}
use Rattle.emit_row_code.proofs.statement_laws.values_are_stored.Goals as goal

pub returns : goal.returns
returns c = values_are_stored
