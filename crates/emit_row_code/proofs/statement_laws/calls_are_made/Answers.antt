use Rattle.emit_row_code.proofs.lemmas.StatementLaws.{calls_are_made}
use Rattle.emit_row_code.proofs.statement_laws.calls_are_made.Goals as goal

pub returns : goal.returns
returns c = calls_are_made
