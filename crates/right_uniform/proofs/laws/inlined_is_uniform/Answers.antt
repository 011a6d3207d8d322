use Rattle.right_uniform.proofs.InlinedUniform as proof
use Rattle.right_uniform.proofs.laws.inlined_is_uniform.Goals as goal

pub returns : goal.returns
returns c = proof.inlined_is_uniform c.inlining_minds_no_lines.ensures
