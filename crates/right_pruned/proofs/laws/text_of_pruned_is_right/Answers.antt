use Rattle.right_pruned.proofs.PrunedTexts as proof
use Rattle.right_pruned.proofs.laws.text_of_pruned_is_right.Goals as goal

pub returns : goal.returns
returns c =
    proof.text_of_pruned_is_right c.pruned_is_code.ensures c.pruned_has_none_idle.ensures c.calls_mean_no_lines.ensures
    c.text_of_code_is_right.ensures
