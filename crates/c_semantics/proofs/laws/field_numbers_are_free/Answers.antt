use Rattle.c_semantics.proofs.lemmas.FieldNumbers as proof
use Rattle.c_semantics.proofs.laws.field_numbers_are_free.Goals as goal

pub returns : goal.returns
returns c = proof.field_numbers_are_free
