use Rattle.right_system_ticks.proofs.FieldPlaces as proof
use Rattle.right_system_ticks.proofs.place_laws.fields_have_places.Goals as goal

pub returns : goal.returns
returns c = proof.fields_have_places c.locals_are_sound.ensures c.emitted_is_emittable.ensures
