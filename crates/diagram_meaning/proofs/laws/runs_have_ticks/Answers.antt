use Rattle.diagram_meaning.proofs.lemmas.TickLaws as proof
use Rattle.diagram_meaning.proofs.laws.runs_have_ticks.Goals as goal

pub returns : goal.returns
returns c = proof.runs_have_ticks
