use Rattle.right_relation.proofs.lemmas.NextStands as proof
use Rattle.right_relation.proofs.laws.ticks_follow.Goals as goal

pub returns : goal.returns
returns c = proof.ticks_follow
