use Rattle.emit_row_code.proofs.lemmas.RowLaws.{returns_are_few}
use Rattle.emit_row_code.proofs.laws.returns_are_few.Goals as goal

pub returns : goal.returns
returns c = returns_are_few
