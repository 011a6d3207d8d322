use Rattle.std.proofs.Common.{◌+◌, sym, ap, ◌∙◌, true, false, drop, codes}
use Rattle.std.specs.Prelude.{bytes_eq, flat_map}
use Rattle.base_refusals.specs.FirstRefusal.{as_plain, earlier_of, least_in}
use Rattle.mdl_tree.specs.Spelling.{End}
use Rattle.mdl_tree.specs.Values.{items_of, with_item}
use Rattle.mdl_wiring.specs.Lines.{lines_in, parts_of_line}
use Rattle.mdl_wiring.specs.Refusals.{newer}
use Rattle.mdl_wiring.proofs.SectionLemmas.{lines-from, line-section, newer-more, newer-pass}
use Rattle.mdl_wiring.proofs.newer.newer_line.Goals as goal
use Rattle.mdl_wiring.proofs.newer.newer_line.Goals.{in-Section+then-eq, in-Section+else-eq, in_default}

pub loop-item-preserved : goal.loop-item-preserved
loop-item-preserved c =
    let items = c.as_slice-item-items.result.now in
    let i = c.loop-item.item-index in
    let item = c.item-item.result in
    let before = as_plain c.loop-item.least in
    let here = flat_map parts_of_line (lines_in (with_item item End)) in
    let rest = flat_map parts_of_line (lines_in (items_of (drop (i + 1) items))) in
    let now = flat_map parts_of_line (lines_in (items_of (drop i items))) in
    let split = lines-from items i item c.loop-item-test.true c.item-item.is in
    elim c.match-item.branch [
      | in-Section+then-eq w ↦
          let inside = w.in-Section.line in
          let named = ap (λ n. bytes_eq n (codes "Line")) (sym w.bytes.ensures)
          ∙ ap (bytes_eq w.bytes.result.now) (sym w.as_slice.ensures) ∙ sym w.eq.ensures ∙ w.if-eq.true in
          ap (λ o. earlier_of (as_plain o) (least_in newer rest)) w.least-is
          ∙ newer-more before (as_plain w.earlier-least.result) _ here rest now
          (w.earlier-least.ensures
          ∙ ap (earlier_of before) (w.newer_part.ensures
          ∙ ap (least_in newer) (sym (ap (λ x. flat_map parts_of_line (lines_in (with_item x End))) w.in-Section.is
          ∙ line-section inside true named))))
          split c.loop-item.invariant
      | in-Section+else-eq w ↦
          let inside = w.in-Section.line in
          let named = ap (λ n. bytes_eq n (codes "Line")) (sym w.bytes.ensures)
          ∙ ap (bytes_eq w.bytes.result.now) (sym w.as_slice.ensures) ∙ sym w.eq.ensures ∙ w.if-eq.false in
          ap (λ o. earlier_of (as_plain o) (least_in newer rest)) w.least-is
          ∙ newer-pass before _ here rest now
          (sym (ap (λ x. flat_map parts_of_line (lines_in (with_item x End))) w.in-Section.is
          ∙ line-section inside false named)) split c.loop-item.invariant
      | in_default w ↦
          ap (λ o. earlier_of (as_plain o) (least_in newer rest)) w.least-is
          ∙ newer-pass before _ here rest now
          (sym (ap (λ x. flat_map parts_of_line (lines_in (with_item x End))) w.in_default.is)) split
          c.loop-item.invariant
    ]
