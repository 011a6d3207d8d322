use Rattle.right_system_ticks.proofs.RestingFields as proof
use Rattle.right_system_ticks.proofs.account_laws.emitted_fields_rest.Goals as goal

pub returns : goal.returns
returns c = proof.emitted_fields_rest c.fields_have_places.ensures
