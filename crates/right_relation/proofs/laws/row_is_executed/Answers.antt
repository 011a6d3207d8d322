use Rattle.right_relation.proofs.lemmas.ExecutedCode as proof
use Rattle.right_relation.proofs.laws.row_is_executed.Goals as goal

pub returns : goal.returns
returns c = proof.row_is_executed
