use Rattle.diagram_meaning.proofs.lemmas.Accepted as proof
use Rattle.diagram_meaning.proofs.laws.resolved_rows_are_narrow.Goals as goal

pub returns : goal.returns
returns c = proof.rows_are_narrow
