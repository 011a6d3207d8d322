use Rattle.right_pruned.proofs.PrunedCode as proof
use Rattle.right_pruned.proofs.laws.pruned_is_code.Goals as goal

pub returns : goal.returns
returns c = proof.pruned_is_code c.pruned_runs_alike.ensures
