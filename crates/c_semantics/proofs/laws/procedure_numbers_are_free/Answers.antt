use Rattle.c_semantics.proofs.lemmas.NumberingLaws as proof
use Rattle.c_semantics.proofs.laws.procedure_numbers_are_free.Goals as goal

pub returns : goal.returns
returns c = proof.procedure_numbers_are_free
