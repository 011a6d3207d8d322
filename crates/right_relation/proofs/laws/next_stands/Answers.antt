use Rattle.right_relation.proofs.lemmas.NextStands as proof
use Rattle.right_relation.proofs.laws.next_stands.Goals as goal

pub returns : goal.returns
returns c = proof.next_stands
