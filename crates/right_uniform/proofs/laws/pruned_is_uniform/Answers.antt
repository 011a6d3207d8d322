use Rattle.right_uniform.proofs.PrunedUniform as proof
use Rattle.right_uniform.proofs.laws.pruned_is_uniform.Goals as goal

pub returns : goal.returns
returns c = proof.pruned_is_uniform
