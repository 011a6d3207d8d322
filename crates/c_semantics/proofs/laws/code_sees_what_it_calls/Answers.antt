use Rattle.c_semantics.proofs.lemmas.NumberingLaws as proof
use Rattle.c_semantics.proofs.laws.code_sees_what_it_calls.Goals as goal

pub returns : goal.returns
returns c = proof.code_sees_what_it_calls
