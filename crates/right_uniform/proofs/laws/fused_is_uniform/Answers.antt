use Rattle.right_uniform.proofs.FusedUniform as proof
use Rattle.right_uniform.proofs.laws.fused_is_uniform.Goals as goal

pub returns : goal.returns
returns c = proof.fused_is_uniform c.fusing_minds_no_lines.ensures
