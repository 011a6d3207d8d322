use Rattle.mdl_table.proofs.NestedTable as proof
use Rattle.mdl_table.proofs.laws.tree_is_nested.Goals as goal

pub returns : goal.returns
returns c =
    proof.tree_is_nested c.outlines_are_numbered.ensures c.owners_are_before.ensures c.outlines_are_in_preorder.ensures
    c.depths_are_owners_around.ensures
