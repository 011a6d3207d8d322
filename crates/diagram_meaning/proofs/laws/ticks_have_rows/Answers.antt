use Rattle.diagram_meaning.proofs.lemmas.TickLaws as proof
use Rattle.diagram_meaning.proofs.laws.ticks_have_rows.Goals as goal

pub returns : goal.returns
returns c = proof.ticks_have_rows
