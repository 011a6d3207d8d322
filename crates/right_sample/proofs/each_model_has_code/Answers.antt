use Rattle.right_sample.proofs.HaveCode as proof
use Rattle.right_sample.proofs.each_model_has_code.Goals as goal

pub returns : goal.returns
returns c = proof.each_has_code c.models_have_parts.ensures c.emitted_code_is_ok.ensures c.assembled_is_code.ensures
