use Rattle.mdl_table.proofs.TableThere as proof
use Rattle.mdl_table.proofs.laws.tree_has_table.Goals as goal

pub returns : goal.returns
returns c = proof.tree_has_table
