use Rattle.c_semantics.proofs.lemmas.RunLaws as proof
use Rattle.c_semantics.proofs.laws.tests_choose_branches.Goals as goal

pub returns : goal.returns
returns c = proof.tests_choose_branches
