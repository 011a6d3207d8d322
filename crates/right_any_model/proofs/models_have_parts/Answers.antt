use Rattle.right_any_model.proofs.Together as proof
use Rattle.right_any_model.proofs.models_have_parts.Goals as goal

pub returns : goal.returns
returns c = proof.models_have_parts c.each_system_is_emitted.ensures
