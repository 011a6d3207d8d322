use Rattle.diagram_meaning.proofs.SomeTimes as proof
use Rattle.diagram_meaning.proofs.laws.input_times_are_there.Goals as goal

pub returns : goal.returns
returns c = proof.input_times_are_there
