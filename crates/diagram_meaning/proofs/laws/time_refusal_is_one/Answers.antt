use Rattle.diagram_meaning.proofs.OneTimes as proof
use Rattle.diagram_meaning.proofs.laws.time_refusal_is_one.Goals as goal

pub returns : goal.returns
returns c = proof.time_refusal_is_one
