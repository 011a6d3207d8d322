use Rattle.c_semantics.proofs.lemmas.RunLaws as proof
use Rattle.c_semantics.proofs.laws.items_are_stored.Goals as goal

pub returns : goal.returns
returns c = proof.items_are_stored
