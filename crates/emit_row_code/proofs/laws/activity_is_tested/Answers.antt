use Rattle.emit_row_code.proofs.lemmas.TestLaws.{activity_is_tested}
use Rattle.emit_row_code.proofs.laws.activity_is_tested.Goals as goal

pub returns : goal.returns
returns c = activity_is_tested
