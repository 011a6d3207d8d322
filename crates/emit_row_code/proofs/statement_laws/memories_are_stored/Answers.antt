use Rattle.emit_row_code.proofs.lemmas.StatementLaws.{memories_are_stored}
use Rattle.emit_row_code.proofs.statement_laws.memories_are_stored.Goals as goal

pub returns : goal.returns
returns c = memories_are_stored
