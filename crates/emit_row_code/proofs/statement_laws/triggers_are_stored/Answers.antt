use Rattle.emit_row_code.proofs.lemmas.StatementLaws.{triggers_are_stored}
use Rattle.emit_row_code.proofs.statement_laws.triggers_are_stored.Goals as goal

pub returns : goal.returns
returns c = triggers_are_stored
