use Rattle.diagram_meaning.proofs.OneTime as proof
use Rattle.diagram_meaning.proofs.laws.time_is_one.Goals as goal

pub returns : goal.returns
returns c = proof.HasTime-one
