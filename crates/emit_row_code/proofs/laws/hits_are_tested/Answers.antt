use Rattle.emit_row_code.proofs.lemmas.TestLaws.{hits_are_tested}
use Rattle.emit_row_code.proofs.laws.hits_are_tested.Goals as goal

pub returns : goal.returns
returns c = hits_are_tested
