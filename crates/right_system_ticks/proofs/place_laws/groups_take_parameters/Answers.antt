use Rattle.right_system_ticks.proofs.GroupParameters as proof
use Rattle.right_system_ticks.proofs.place_laws.groups_take_parameters.Goals as goal

pub returns : goal.returns
returns c =
    proof.groups_take_parameters c.nodes_reach_as_rows.ensures c.locals_are_lawful.ensures c.emitted_is_emittable.ensures
    c.called_groups_are_held.ensures c.groups_stand_first.ensures
