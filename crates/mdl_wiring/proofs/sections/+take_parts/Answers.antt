use Rattle.std.proofs.Common.{◌+◌, ◌++◌, true, false, sym, ap, ◌∙◌, drop, codes}
use Rattle.std.specs.Prelude.{bytes_eq}
use Rattle.mdl_tree.specs.Spelling.{End}
use Rattle.mdl_tree.specs.Values.{items_of, section_tree, with_item, trees_of}
use Rattle.mdl_wiring.specs.Lines.{branches_in, parts_of_line}
use Rattle.mdl_tree.proofs.lemmas.Sections.{named-pass}
use Rattle.mdl_wiring.proofs.SectionLemmas.{branches-from, branches-section, branch-taken}
use Rattle.mdl_wiring.proofs.sections.+take_parts.Goals as goal
use Rattle.mdl_wiring.proofs.sections.+take_parts.Goals.{in-Section+then-eq+in_ok-take_parts, in-Section+else-eq, in_default}

pub loop-item-preserved : goal.loop-item-preserved
loop-item-preserved t c =
    let items = c.as_slice-item-items.result.now in
    let i = c.loop-item.item-index in
    let item = c.item-item.result in
    let olds = c.loop-item.parts.items in
    let here = branches_in (with_item item End) in
    let rest = branches_in (items_of (drop (i + 1) items)) in
    let now = branches_in (items_of (drop i items)) in
    let whole = trees_of c.args.parts.now.items ++ parts_of_line (section_tree c.args.line.now) in
    let split = branches-from items i item c.loop-item-test.true c.item-item.is in
    elim c.match-item.branch [
      | in-Section+then-eq+in_ok-take_parts w ↦
          let branch = w.in-Section.branch in
          let named = ap (λ n. bytes_eq n (codes "Branch")) (sym w.bytes.ensures)
          ∙ ap (bytes_eq w.bytes.result.now) (sym w.as_slice.ensures) ∙ sym w.eq.ensures ∙ w.if-eq.true in
          ap (λ v. trees_of v.items ++ rest) w.parts-is
          ∙ branch-taken olds w.take_parts.new.parts.items (parts_of_line (section_tree branch)) here rest now whole
          w.in_ok-take_parts.ensures
          (ap (λ x. branches_in (with_item x End)) w.in-Section.is ∙ branches-section branch true named) split c.loop-item.invariant
      | in-Section+else-eq w ↦
          let branch = w.in-Section.branch in
          let named = ap (λ n. bytes_eq n (codes "Branch")) (sym w.bytes.ensures)
          ∙ ap (bytes_eq w.bytes.result.now) (sym w.as_slice.ensures) ∙ sym w.eq.ensures ∙ w.if-eq.false in
          ap (λ v. trees_of v.items ++ rest) w.parts-is
          ∙ named-pass olds here rest now whole
          (sym (ap (λ x. branches_in (with_item x End)) w.in-Section.is ∙ branches-section branch false named)) split c.loop-item.invariant
      | in_default w ↦
          ap (λ v. trees_of v.items ++ rest) w.parts-is
          ∙ named-pass olds here rest now whole (sym (ap (λ x. branches_in (with_item x End)) w.in_default.is)) split c.loop-item.invariant
    ]
