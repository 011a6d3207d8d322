use Rattle.diagram_meaning.proofs.PeriodLaws as proof
use Rattle.diagram_meaning.proofs.laws.hits_repeat.Goals as goal

pub returns : goal.returns
returns c = proof.hits_repeat
