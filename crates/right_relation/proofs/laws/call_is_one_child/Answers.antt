use Rattle.right_relation.proofs.lemmas.ExecutedFields as proof
use Rattle.right_relation.proofs.laws.call_is_one_child.Goals as goal

pub returns : goal.returns
returns c = proof.call_is_one_child
