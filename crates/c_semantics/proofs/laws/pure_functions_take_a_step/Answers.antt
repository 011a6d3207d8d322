use Rattle.c_semantics.proofs.lemmas.EvaluationLaws as proof
use Rattle.c_semantics.proofs.laws.pure_functions_take_a_step.Goals as goal

pub returns : goal.returns
returns c = proof.pure_functions_take_a_step
