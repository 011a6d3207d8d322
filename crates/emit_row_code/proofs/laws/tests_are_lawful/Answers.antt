use Rattle.emit_row_code.proofs.lemmas.LawfulTests.{tests_are_lawful}
use Rattle.emit_row_code.proofs.laws.tests_are_lawful.Goals as goal

pub returns : goal.returns
returns c = tests_are_lawful
