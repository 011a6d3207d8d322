use Rattle.c_semantics.proofs.lemmas.CallLaws as proof
use Rattle.c_semantics.proofs.laws.child_calls_stay_inside.Goals as goal

pub returns : goal.returns
returns c = proof.child_calls_stay_inside
