use Rattle.right_system_ticks.proofs.KeptTicks as proof
use Rattle.right_system_ticks.proofs.laws.acts_are_performed.Goals as goal

pub returns : goal.returns
returns c = proof.acts_are_performed (record {
  row_is_executed = c.row_is_executed.ensures;
  call_is_executed = c.call_is_executed.ensures;
  row_is_no_field = c.row_is_no_field.ensures;
  standing_has_slots = c.standing_has_slots.ensures;
  emptied_is_ring = c.emptied_is_ring.ensures;
  moved_is_ring = c.moved_is_ring.ensures;
  numbers_are_written = c.numbers_are_written.ensures;
  locals_are_sound = c.locals_are_sound.ensures;
  emitted_is_emittable = c.emitted_is_emittable.ensures;
  groups_are_next = c.groups_are_next.ensures;
  updates_end_ticks = c.updates_end_ticks.ensures;
  groups_stand_first = c.groups_stand_first.ensures;
  fields_have_places = c.fields_have_places.ensures;
  procedures_have_places = c.procedures_have_places.ensures;
  calls_are_logged_by_name = c.calls_are_logged_by_name.ensures;
  child_resets_stand = c.child_resets_stand.ensures;
  arguments_are_taken = c.arguments_are_taken.ensures;
  groups_take_parameters = c.groups_take_parameters.ensures;
})
