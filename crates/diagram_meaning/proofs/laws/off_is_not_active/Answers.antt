use Rattle.diagram_meaning.proofs.lemmas.TickLaws as proof
use Rattle.diagram_meaning.proofs.laws.off_is_not_active.Goals as goal

pub returns : goal.returns
returns c = proof.off_is_not_active
