use Rattle.std.proofs.Common.{◌≡◌, drop}
use Rattle.mdl_tree.specs.Spelling.{append_items}
use Rattle.mdl_tree.specs.Values.{items_of}
use Rattle.mdl_library.specs.Items.{with_inside}
use Rattle.mdl_library.specs.HeldItems.{items_left, with_left}
use Rattle.mdl_library.proofs.items.with_inside.Given as goal

abbrev pub invariant-loop-item : goal.invariant-loop-item
invariant-loop-item l =
    append_items (items_of l.items.items) (with_left l.name (items_left l.left) (items_of (drop l.item-index l.item-items)))
    ≡ with_inside l.fn.name (items_of l.fn.inside.items) (items_of l.fn.section.items.items)
