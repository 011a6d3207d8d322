use Rattle.right_sample_model.proofs.Resolved as proof
use Rattle.right_sample_model.proofs.rich_model_is_there.Goals as goal

pub returns : goal.returns
returns c = proof.rich_model_is_there c.tables_have_times.ensures c.input_times_are_there.ensures c.time_is_one.ensures
