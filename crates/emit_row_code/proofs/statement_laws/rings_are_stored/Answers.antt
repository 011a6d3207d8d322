use Rattle.emit_row_code.proofs.lemmas.RingLaws.{rings_are_stored}
use Rattle.emit_row_code.proofs.statement_laws.rings_are_stored.Goals as goal

pub returns : goal.returns
returns c = rings_are_stored
