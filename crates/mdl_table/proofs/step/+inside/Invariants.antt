use Rattle.std.proofs.Common.{◌≡◌, drop}
use Rattle.mdl_tree.specs.Values.{items_of}
use Rattle.mdl_table.specs.Steps.{first_at_any_depth}
use Rattle.mdl_table.proofs.step.+inside.Given as goal

abbrev pub invariant-value_inside-loop-item : goal.invariant-value_inside-loop-item
invariant-value_inside-loop-item l =
    first_at_any_depth l.name (items_of (drop l.item-index l.item-items)) ≡ first_at_any_depth l.fn.name (items_of l.fn.section.items.items)
