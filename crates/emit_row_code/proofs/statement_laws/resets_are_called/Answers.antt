use Rattle.emit_row_code.proofs.lemmas.StatementLaws.{resets_are_called}
use Rattle.emit_row_code.proofs.statement_laws.resets_are_called.Goals as goal

pub returns : goal.returns
returns c = resets_are_called
