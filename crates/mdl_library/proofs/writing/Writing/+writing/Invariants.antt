use Rattle.std.proofs.Common.{◌≡◌, ◌+◌, ◌*◌, drop}
use Rattle.mdl_tree.specs.Spelling.{append_items}
use Rattle.mdl_tree.specs.Values.{items_of, item_alone, section_tree}
use Rattle.mdl_library.specs.Held.{library_seen}
use Rattle.mdl_library.specs.HeldWriting.{system_of}
use Rattle.mdl_library.proofs.Weights.{weight, weight_of_sources}
use Rattle.mdl_library.proofs.writing.Writing.+writing.Given as goal

abbrev pub decreases-system : goal.decreases-system
decreases-system l =
    l.self.now.depth * (weight_of_sources (library_seen l.self.now.library.now).sources + 6) + (weight (section_tree l.system.now).items + 1)

abbrev pub decreases-item : goal.decreases-item
decreases-item l =
    l.self.now.depth * (weight_of_sources (library_seen l.self.now.library.now).sources + 6) + weight (item_alone l.item.now)

abbrev pub decreases-block : goal.decreases-block
decreases-block l =
    l.self.now.depth * (weight_of_sources (library_seen l.self.now.library.now).sources + 6) + (weight (section_tree l.block.now).items + 2)

abbrev pub decreases-inner : goal.decreases-inner
decreases-inner l =
    l.self.now.depth * (weight_of_sources (library_seen l.self.now.library.now).sources + 6) + (weight (section_tree l.block.now).items + 1)

abbrev pub decreases-reference : goal.decreases-reference
decreases-reference l = l.self.now.depth * (weight_of_sources (library_seen l.self.now.library.now).sources + 6) + 1

abbrev pub decreases-source : goal.decreases-source
decreases-source l = l.self.now.depth * (weight_of_sources (library_seen l.self.now.library.now).sources + 6)

abbrev pub invariant-system-loop-item : goal.invariant-system-loop-item
invariant-system-loop-item l =
    append_items (items_of l.items.items) (system_of l.self (items_of (drop l.item-index l.item-items)))
    ≡ system_of l.self (items_of l.fn.system.items.items)
