use Rattle.mdl_table.proofs.WiredRows as proof
use Rattle.mdl_table.proofs.wire_laws.tree_is_wired.Goals as goal

pub returns : goal.returns
returns c =
    proof.tree_is_wired c.outlines_are_numbered.ensures c.owners_are_before.ensures c.each_input_has_one_source.ensures
