use Rattle.c_semantics.proofs.lemmas.CallLaws as proof
use Rattle.c_semantics.proofs.laws.own_calls_run_bodies.Goals as goal

pub returns : goal.returns
returns c = proof.own_calls_run_bodies
