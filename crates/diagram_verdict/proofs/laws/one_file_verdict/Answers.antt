use Rattle.diagram_verdict.proofs.OneFileVerdict as proof
use Rattle.diagram_verdict.proofs.laws.one_file_verdict.Goals as goal

pub returns : goal.returns
returns c = proof.one_file_verdict c.tree_has_table.ensures c.tree_has_one_table.ensures c.tree_or_fault.ensures
