use Rattle.diagram_meaning.proofs.PeriodLaws as proof
use Rattle.diagram_meaning.proofs.laws.resolved_cycles_have_ticks.Goals as goal

pub returns : goal.returns
returns c = proof.cycles_have_ticks
