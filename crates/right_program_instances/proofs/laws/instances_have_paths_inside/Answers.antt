use Rattle.right_program_instances.proofs.InnerPaths.{instances_have_paths_inside}
use Rattle.right_program_instances.proofs.laws.instances_have_paths_inside.Goals as goal

pub returns : goal.returns
returns c a =
    instances_have_paths_inside c.fields_have_places.ensures c.forms_are_of_slots.ensures c.own_rows_stand_in.ensures a
    (c.codes_have_views.ensures a)
