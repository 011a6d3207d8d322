use Rattle.right_system_ticks.proofs.ProcedurePlaces as proof
use Rattle.right_system_ticks.proofs.place_laws.procedures_have_places.Goals as goal

pub returns : goal.returns
returns c = proof.procedures_have_places c.emitted_is_emittable.ensures c.groups_stand_first.ensures
