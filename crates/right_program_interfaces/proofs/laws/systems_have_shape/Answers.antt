use Rattle.right_program_interfaces.proofs.SystemShapes.{systems_have_shape}
use Rattle.right_program_interfaces.proofs.laws.systems_have_shape.Goals as goal

pub returns : goal.returns
returns c = systems_have_shape c.codes_have_views.ensures c.locals_are_lawful.ensures c.systems_have_places.ensures
