use Rattle.diagram_meaning.proofs.lemmas.OneRun as proof
use Rattle.diagram_meaning.proofs.laws.one_run.Goals as goal

pub returns : goal.returns
returns c = proof.one_run
