use Rattle.diagram_meaning.proofs.SomeTimes as proof
use Rattle.diagram_meaning.proofs.laws.time_refusal_is_there.Goals as goal

pub returns : goal.returns
returns c = proof.time_refusal_is_there
