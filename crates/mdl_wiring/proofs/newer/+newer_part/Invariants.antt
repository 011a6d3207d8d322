use Rattle.std.proofs.Common.{◌≡◌, drop}
use Rattle.base_refusals.specs.FirstRefusal.{as_plain, earlier_of, least_in}
use Rattle.mdl_tree.specs.Values.{items_of, section_tree}
use Rattle.mdl_wiring.specs.Lines.{branches_in, parts_of_line}
use Rattle.mdl_wiring.specs.Refusals.{newer}
use Rattle.mdl_wiring.proofs.newer.+newer_part.Given as goal

abbrev pub invariant-loop-item : goal.invariant-loop-item
invariant-loop-item l =
    earlier_of (as_plain l.least) (least_in newer (branches_in (items_of (drop l.item-index l.item-items))))
    ≡ least_in newer (parts_of_line (section_tree l.fn.line))
