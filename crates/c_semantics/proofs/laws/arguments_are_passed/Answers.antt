use Rattle.c_semantics.proofs.lemmas.CallLaws as proof
use Rattle.c_semantics.proofs.laws.arguments_are_passed.Goals as goal

pub returns : goal.returns
returns c = proof.arguments_are_passed
