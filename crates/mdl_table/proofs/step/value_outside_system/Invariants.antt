use Rattle.std.proofs.Common.{◌≡◌, drop}
use Rattle.mdl_tree.specs.Values.{items_of}
use Rattle.mdl_table.specs.Walks.{first_behind}
use Rattle.mdl_table.specs.Steps.{first_outside_system}
use Rattle.mdl_table.proofs.step.value_outside_system.Given as goal

abbrev pub invariant-loop-item : goal.invariant-loop-item
invariant-loop-item l =
    first_behind l.is_behind l.name (items_of (drop l.item-index l.item-items))
    ≡ first_outside_system l.fn.name (items_of l.fn.model.items.items)
