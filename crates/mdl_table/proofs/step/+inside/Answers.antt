use Rattle.std.proofs.Common.{sym, ap, ◌∙◌}
use Rattle.std.specs.Option.{option_copied}
use Rattle.mdl_tree.specs.Values.{item_alone}
use Rattle.mdl_table.specs.Steps.{first_at_any_depth}
use Rattle.mdl_table.proofs.StepLemmas.{any_depth-section, any_depth-from, found-here, found-later}
use Rattle.mdl_table.proofs.step.+inside.Goals as goal

pub value_in_item-returns-in-Section : goal.value_in_item-returns-in-Section
value_in_item-returns-in-Section t c =
    c.value_inside.ensures ∙ any_depth-section c.args.name.now c.in-Section.inside
    ∙ ap (λ item. first_at_any_depth c.args.name.now (item_alone item)) (sym c.in-Section.is)

pub value_inside-returns-in-Some : goal.value_inside-returns-in-Some
value_inside-returns-in-Some t c =
    found-here _ _ _ _ _ (ap option_copied (sym c.in-Some.is) ∙ c.value_in_item.ensures)
    (any_depth-from c.args.name.now c.as_slice-item-items.result.now c.loop-item.item-index c.item-item.result
    c.loop-item-test.true c.item-item.is)
    c.loop-item.invariant

pub value_inside-loop-item-preserved : goal.value_inside-loop-item-preserved
value_inside-loop-item-preserved t c =
    found-later _ _ _ _ (ap option_copied (sym c.in_default.is) ∙ c.value_in_item.ensures)
    (any_depth-from c.args.name.now c.as_slice-item-items.result.now c.loop-item.item-index c.item-item.result
    c.loop-item-test.true c.item-item.is)
    c.loop-item.invariant
