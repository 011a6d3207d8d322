use Rattle.emit_row_code.proofs.lemmas.RingLaws.{oldest_is_read}
use Rattle.emit_row_code.proofs.statement_laws.oldest_is_read.Goals as goal

pub returns : goal.returns
returns c = oldest_is_read
