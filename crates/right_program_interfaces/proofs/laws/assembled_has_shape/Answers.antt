use Rattle.right_program_interfaces.proofs.AssembledShape.{assembled_have_shape}
use Rattle.right_program_interfaces.proofs.laws.assembled_has_shape.Goals as goal

pub returns : goal.returns
returns c = assembled_have_shape c.functions_are_known.ensures c.systems_have_shape.ensures c.structs_are_named.ensures c.root_has_shape.ensures
