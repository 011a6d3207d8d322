use Rattle.std.proofs.Common.{rules, ◌≡◌, IfOk, unwrap_or, sym, ap, ap₂, subst, ◌∙◌}
use Rattle.mdl_tree.specs.Spelling as spelling
use Rattle.mdl_tree.specs.Values.{items_of, item_alone}
use Rattle.mdl_library.specs.Items.{moved}
use Rattle.mdl_library.proofs.ItemLemmas.{moved_more, moved_end, moved_section}
use Rattle.mdl_library.proofs.items.+moved.Goals as goal

pub moved_item-returns-in_ok-items-in-Section : goal.moved_item-returns-in_ok-items-in-Section
moved_item-returns-in_ok-items-in-Section t c =
    let section = c.in-Section.section in
    let items = items_of c.in_ok-items-in-Section.items.items in
    let line : c.unwrap_or-in-Section.result ≡ unwrap_or c.args.copy section.line = search rules in
    subst (λ x. IfOk c.section_of.result (λ new. item_alone new ≡ x))
    (ap₂ (λ n l. spelling.Section n l items spelling.End) c.bytes-in-Section.ensures line
    ∙ moved_section c.args.copy section items c.in_ok-items-in-Section.ensures
    ∙ ap (λ x. moved c.args.copy (item_alone x)) (sym c.in-Section.is))
    c.section_of.ensures

pub moved_items-loop-item-preserved : goal.moved_items-loop-item-preserved
moved_items-loop-item-preserved t c =
    moved_more c.args.copy c.as_slice-item-items.result.now c.loop-item.item-index c.item-item.result c.loop-item-test.true c.item-item.is
    c.loop-item.items.items c.push.new.self.items c.in_ok-moved_item.field-0 _ c.in_ok-push.ensures.items c.in_ok-moved_item.ensures
    c.loop-item.invariant

pub moved_items-returns : goal.moved_items-returns
moved_items-returns t c =
    moved_end c.args.copy c.as_slice-item-items.result.now c.loop-item.item-index c.loop-item-test.false c.loop-item.items.items _
    c.loop-item.invariant
