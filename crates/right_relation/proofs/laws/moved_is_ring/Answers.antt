use Rattle.right_relation.proofs.lemmas.RingLaws as proof
use Rattle.right_relation.proofs.laws.moved_is_ring.Goals as goal

pub returns : goal.returns
returns c = proof.moved_is_ring
