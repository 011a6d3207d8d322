use Rattle.right_system_ticks.proofs.ProcedurePlaces as proof
use Rattle.right_system_ticks.proofs.place_laws.calls_are_logged_by_name.Goals as goal

pub returns : goal.returns
returns c = proof.calls_are_logged_by_name c.emitted_is_emittable.ensures c.groups_stand_first.ensures
