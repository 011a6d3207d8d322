use Rattle.right_program_instances.proofs.SlotForms.{forms_are_of_slots}
use Rattle.right_program_instances.proofs.laws.forms_are_of_slots.Goals as goal

pub returns : goal.returns
returns c = forms_are_of_slots c.systems_have_places.ensures
