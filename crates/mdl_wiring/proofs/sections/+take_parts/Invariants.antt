use Rattle.std.proofs.Common.{◌≡◌, ◌++◌, drop}
use Rattle.mdl_tree.specs.Values.{items_of, section_tree, trees_of}
use Rattle.mdl_wiring.specs.Lines.{branches_in, parts_of_line}
use Rattle.mdl_wiring.proofs.sections.+take_parts.Given as goal

abbrev pub invariant-loop-item : goal.invariant-loop-item
invariant-loop-item l =
    trees_of l.parts.items ++ branches_in (items_of (drop l.item-index l.item-items)) ≡ trees_of l.fn.parts.items
    ++ parts_of_line (section_tree l.fn.line)
