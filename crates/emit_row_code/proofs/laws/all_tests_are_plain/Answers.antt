use Rattle.emit_row_code.proofs.lemmas.TestLaws.{all_tests_are_plain}
use Rattle.emit_row_code.proofs.laws.all_tests_are_plain.Goals as goal

pub returns : goal.returns
returns c = all_tests_are_plain
