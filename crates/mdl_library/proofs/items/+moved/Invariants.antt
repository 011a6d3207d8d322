use Rattle.std.proofs.Common.{◌≡◌, drop}
use Rattle.mdl_tree.specs.Spelling.{append_items}
use Rattle.mdl_tree.specs.Values.{items_of}
use Rattle.mdl_library.specs.Items.{moved}
use Rattle.mdl_library.proofs.items.+moved.Given as goal

abbrev pub invariant-moved_items-loop-item : goal.invariant-moved_items-loop-item
invariant-moved_items-loop-item l =
    append_items (items_of l.items.items) (moved l.copy (items_of (drop l.item-index l.item-items)))
    ≡ moved l.fn.copy (items_of l.fn.section.items.items)
