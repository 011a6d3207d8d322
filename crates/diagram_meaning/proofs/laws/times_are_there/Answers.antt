use Rattle.diagram_meaning.proofs.TableTimes as proof
use Rattle.diagram_meaning.proofs.laws.times_are_there.Goals as goal

pub returns : goal.returns
returns c = proof.times_are_there
