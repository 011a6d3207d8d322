use Rattle.right_program_instances.proofs.RootPaths.{instances_have_paths}
use Rattle.right_program_instances.proofs.laws.instances_have_paths.Goals as goal

pub returns : goal.returns
returns c a =
    instances_have_paths c.systems_have_places.ensures a (c.codes_have_views.ensures a) (c.root_has_places.ensures a)
    (c.instances_have_paths_inside.ensures a)
