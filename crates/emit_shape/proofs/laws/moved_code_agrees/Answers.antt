use Rattle.emit_shape.proofs.lemmas.MovedCode as proof
use Rattle.emit_shape.proofs.laws.moved_code_agrees.Goals as goal

pub returns : goal.returns
returns c = proof.moved_code_agrees c.procedure_numbers_are_free.ensures
