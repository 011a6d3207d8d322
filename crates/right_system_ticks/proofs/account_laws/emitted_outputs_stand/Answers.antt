use Rattle.right_system_ticks.proofs.RestingFields as proof
use Rattle.right_system_ticks.proofs.account_laws.emitted_outputs_stand.Goals as goal

pub returns : goal.returns
returns c =
    proof.emitted_outputs_stand c.fields_have_places.ensures c.outport_is_held_alone.ensures c.called_groups_are_held.ensures
    c.locals_are_sound.ensures
