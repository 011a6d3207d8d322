use Rattle.right_relation.proofs.lemmas.LocalTickLaws as proof
use Rattle.right_relation.proofs.laws.ticks_are_local.Goals as goal

pub returns : goal.returns
returns c = proof.ticks_are_local
