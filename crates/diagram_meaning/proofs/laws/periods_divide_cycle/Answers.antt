use Rattle.diagram_meaning.proofs.PeriodLaws as proof
use Rattle.diagram_meaning.proofs.laws.periods_divide_cycle.Goals as goal

pub returns : goal.returns
returns c = proof.periods_divide_cycle
