use Rattle.c_semantics.proofs.lemmas.CellLaws as proof
use Rattle.c_semantics.proofs.laws.fields_are_set.Goals as goal

pub returns : goal.returns
returns c = proof.fields_are_set
