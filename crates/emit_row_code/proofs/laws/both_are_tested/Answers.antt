use Rattle.emit_row_code.proofs.lemmas.TestLaws.{both_are_tested}
use Rattle.emit_row_code.proofs.laws.both_are_tested.Goals as goal

pub returns : goal.returns
returns c = both_are_tested
