use Rattle.std.proofs.Common.{◌≡◌, ◌++◌, drop}
use Rattle.mdl_tree.specs.Walks.{sections_named}
use Rattle.mdl_tree.specs.Values.{items_of, trees_of}
use Rattle.mdl_tree.proofs.tree.Section.sections_named.Given as goal

abbrev pub invariant-loop-item : goal.invariant-loop-item
invariant-loop-item l =
    trees_of l.sections.items ++ sections_named l.name (items_of (drop l.item-index l.item-items))
    ≡ sections_named l.fn.name (items_of l.fn.self.items.items)
