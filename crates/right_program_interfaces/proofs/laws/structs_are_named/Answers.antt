use Rattle.right_program_interfaces.proofs.StructNames.{structs_are_named}
use Rattle.right_program_interfaces.proofs.laws.structs_are_named.Goals as goal

pub returns : goal.returns
returns c = structs_are_named c.codes_have_views.ensures
