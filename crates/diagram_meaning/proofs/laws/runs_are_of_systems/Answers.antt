use Rattle.diagram_meaning.proofs.lemmas.SystemRuns as proof
use Rattle.diagram_meaning.proofs.laws.runs_are_of_systems.Goals as goal

pub returns : goal.returns
returns c = proof.runs_are_of_systems
