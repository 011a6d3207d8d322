use Rattle.right_system_ticks.proofs.KeptTicks as proof
use Rattle.right_system_ticks.proofs.laws.emitted_code_keeps_ticks.Goals as goal

pub returns : goal.returns
returns c =
    proof.code_keeps_ticks c.acts_are_performed.ensures c.called_groups_are_held.ensures c.emitted_steps_are_few.ensures
    c.emitted_acts_add.ensures c.emitted_acts_are_logged.ensures c.emitted_outputs_stand.ensures c.emitted_fields_rest.ensures
