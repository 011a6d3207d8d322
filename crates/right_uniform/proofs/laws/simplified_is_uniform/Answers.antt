use Rattle.right_uniform.proofs.SimplifiedUniform as proof
use Rattle.right_uniform.proofs.laws.simplified_is_uniform.Goals as goal

pub returns : goal.returns
returns c =
    proof.simplified_is_uniform c.inlined_is_uniform.ensures c.fused_is_uniform.ensures c.pruned_is_uniform.ensures
