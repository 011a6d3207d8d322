use Rattle.c_semantics.proofs.lemmas.EvaluationLaws as proof
use Rattle.c_semantics.proofs.laws.expressions_are_evaluated.Goals as goal

pub returns : goal.returns
returns c = proof.expressions_are_evaluated
