use Rattle.c_refinement.proofs.lemmas.Composition as proof
use Rattle.c_refinement.proofs.laws.same_runs_refine.Goals as goal

pub returns : goal.returns
returns c = proof.same_runs_refine
