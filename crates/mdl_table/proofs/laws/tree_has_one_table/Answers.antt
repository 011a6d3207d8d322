use Rattle.mdl_table.proofs.OneTable as proof
use Rattle.mdl_table.proofs.laws.tree_has_one_table.Goals as goal

pub returns : goal.returns
returns c = proof.tree_has_one_table
