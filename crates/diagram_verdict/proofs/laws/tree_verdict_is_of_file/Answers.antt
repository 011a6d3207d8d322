use Rattle.diagram_verdict.proofs.TreeVerdicts as proof
use Rattle.diagram_verdict.proofs.laws.tree_verdict_is_of_file.Goals as goal

pub returns : goal.returns
returns c = proof.is_of_file
