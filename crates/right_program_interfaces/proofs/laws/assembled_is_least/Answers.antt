use Rattle.right_program_interfaces.proofs.LeastFaces.{assembled_are_least}
use Rattle.right_program_interfaces.proofs.laws.assembled_is_least.Goals as goal

pub returns : goal.returns
returns c = assembled_are_least c.codes_have_views.ensures c.locals_are_lawful.ensures c.systems_have_places.ensures
    c.header_is_of_own_rows.ensures c.profiles_are_least.ensures
