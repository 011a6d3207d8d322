use Rattle.right_program_interfaces.proofs.RootShape.{root_has_shape}
use Rattle.right_program_interfaces.proofs.laws.root_has_shape.Goals as goal

pub returns : goal.returns
returns c = root_has_shape c.codes_have_views.ensures c.systems_have_places.ensures c.root_has_places.ensures
    c.header_is_of_own_rows.ensures c.cycle_is_of_locals.ensures
