use Rattle.std.proofs.Common.{◌≡◌, drop}
use Rattle.std.specs.Prelude.{flat_map}
use Rattle.base_refusals.specs.FirstRefusal.{as_plain, earlier_of, least_in}
use Rattle.mdl_tree.specs.Values.{items_of, section_tree}
use Rattle.mdl_wiring.specs.Lines.{lines_in, parts_of_line}
use Rattle.mdl_wiring.specs.Refusals.{newer, newer_lines}
use Rattle.mdl_wiring.proofs.newer.newer_line.Given as goal

abbrev pub invariant-loop-item : goal.invariant-loop-item
invariant-loop-item l =
    earlier_of (as_plain l.least)
    (least_in newer (flat_map parts_of_line (lines_in (items_of (drop l.item-index l.item-items)))))
    ≡ newer_lines (section_tree l.fn.system).items
