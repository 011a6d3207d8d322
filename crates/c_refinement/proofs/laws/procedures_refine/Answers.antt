use Rattle.c_refinement.proofs.lemmas.Programs as proof
use Rattle.c_refinement.proofs.laws.procedures_refine.Goals as goal

pub returns : goal.returns
returns c = proof.procedures_refine
