use Rattle.right_relation.proofs.lemmas.NextStands as proof
use Rattle.right_relation.proofs.laws.first_stands.Goals as goal

pub returns : goal.returns
returns c = proof.first_stands
