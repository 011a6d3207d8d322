use Rattle.right_relation.proofs.lemmas.HeldOutports as proof
use Rattle.right_relation.proofs.laws.outport_is_held_alone.Goals as goal

pub returns : goal.returns
returns c = proof.outport_is_held_alone
