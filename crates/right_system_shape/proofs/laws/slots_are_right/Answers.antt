use Rattle.right_system_shape.proofs.Slots as proof
use Rattle.right_system_shape.proofs.laws.slots_are_right.Goals as goal

pub returns : goal.returns
returns c = proof.slots_are_right
