use Rattle.diagram_meaning.proofs.OneTimes as proof
use Rattle.diagram_meaning.proofs.laws.input_times_are_one.Goals as goal

pub returns : goal.returns
returns c = proof.input_times_are_one
