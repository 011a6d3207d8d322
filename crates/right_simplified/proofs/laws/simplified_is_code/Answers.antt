use Rattle.right_simplified.proofs.SimplifiedCode as proof
use Rattle.right_simplified.proofs.laws.simplified_is_code.Goals as goal

pub returns : goal.returns
returns c =
    proof.simplified_is_code c.inlined_is_lawful.ensures c.fused_is_lawful.ensures c.inlined_is_code.ensures c.fused_is_code.ensures
    c.pruned_is_code.ensures
