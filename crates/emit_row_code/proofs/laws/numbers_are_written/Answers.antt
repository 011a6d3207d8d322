use Rattle.emit_row_code.proofs.lemmas.WrittenNumbers as proof
use Rattle.emit_row_code.proofs.laws.numbers_are_written.Goals as goal

pub returns : goal.returns
returns c = proof.numbers_are_written
