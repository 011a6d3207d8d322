use Rattle.diagram_meaning.proofs.OneTimes as proof
use Rattle.diagram_meaning.proofs.laws.times_are_one.Goals as goal

pub returns : goal.returns
returns c = proof.times_are_one
