use Rattle.diagram_meaning.proofs.lemmas.Accepted as proof
use Rattle.diagram_meaning.proofs.laws.resolved_cycles_are_short.Goals as goal

pub returns : goal.returns
returns c = proof.cycles_are_short
