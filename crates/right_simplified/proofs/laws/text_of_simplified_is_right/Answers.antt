use Rattle.right_simplified.proofs.SimplifiedCode as proof
use Rattle.right_simplified.proofs.laws.text_of_simplified_is_right.Goals as goal

pub returns : goal.returns
returns c =
    proof.text_of_simplified_is_right c.inlined_is_lawful.ensures c.fused_is_lawful.ensures c.inlined_is_code.ensures
    c.fused_is_code.ensures c.text_of_pruned_is_right.ensures
