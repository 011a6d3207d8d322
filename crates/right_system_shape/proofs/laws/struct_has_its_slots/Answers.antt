use Rattle.right_system_shape.proofs.Slots as proof
use Rattle.right_system_shape.proofs.laws.struct_has_its_slots.Goals as goal

pub returns : goal.returns
returns c = proof.struct_has_its_slots
