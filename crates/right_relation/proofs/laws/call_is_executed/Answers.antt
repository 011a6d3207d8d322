use Rattle.right_relation.proofs.lemmas.ExecutedCode as proof
use Rattle.right_relation.proofs.laws.call_is_executed.Goals as goal

pub returns : goal.returns
returns c = proof.call_is_executed
