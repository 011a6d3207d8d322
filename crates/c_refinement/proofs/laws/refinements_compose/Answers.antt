use Rattle.c_refinement.proofs.lemmas.Composition as proof
use Rattle.c_refinement.proofs.laws.refinements_compose.Goals as goal

pub returns : goal.returns
returns c = proof.refinements_compose
