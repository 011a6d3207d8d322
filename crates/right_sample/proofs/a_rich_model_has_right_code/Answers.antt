use Rattle.right_sample.proofs.HaveCode as proof
use Rattle.right_sample.proofs.a_rich_model_has_right_code.Goals as goal

pub returns : goal.returns
returns c = proof.rich_has_code c.each_model_has_code.ensures c.rich_model_is_there.ensures
