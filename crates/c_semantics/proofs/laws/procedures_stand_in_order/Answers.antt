use Rattle.c_semantics.proofs.lemmas.NumberingLaws as proof
use Rattle.c_semantics.proofs.laws.procedures_stand_in_order.Goals as goal

pub returns : goal.returns
returns c = proof.procedures_stand_in_order
