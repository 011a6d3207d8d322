use Rattle.diagram_meaning.proofs.lemmas.SystemRuns as proof
use Rattle.diagram_meaning.proofs.laws.children_meet_parents.Goals as goal

pub returns : goal.returns
returns c = proof.children_meet_parents
