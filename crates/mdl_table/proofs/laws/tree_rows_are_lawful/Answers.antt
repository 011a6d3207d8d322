use Rattle.mdl_table.proofs.LawfulRows as proof
use Rattle.mdl_table.proofs.laws.tree_rows_are_lawful.Goals as goal

pub returns : goal.returns
returns c = proof.tree_rows_are_lawful
