use Rattle.std.proofs.Common.{sym, ap, ◌∙◌, ◌+◌, drop}
use Rattle.std.specs.Option.{option_copied}
use Rattle.mdl_tree.specs.Values.{items_of}
use Rattle.mdl_table.specs.Walks.{first_behind}
use Rattle.mdl_table.proofs.StepLemmas.{behind-system, behind-item, found-here, found-later}
use Rattle.mdl_table.proofs.step.value_outside_system.Goals as goal
use Rattle.mdl_table.proofs.step.value_outside_system.Goals.{then-passes_system, else-passes_system+in_default}

pub returns-in-Some : goal.returns-in-Some
returns-in-Some c =
    found-here _ _ _ _ _ (ap option_copied (sym c.in-Some.is) ∙ c.value_in_item.ensures)
    (behind-item c.args.name.now c.as_slice-item-items.result.now c.loop-item.item-index c.item-item.result
    c.loop-item.is_behind c.loop-item-test.true c.item-item.is
    (sym c.passes_system.ensures ∙ c.if-passes_system.false))
    c.loop-item.invariant

pub loop-item-preserved : goal.loop-item-preserved
loop-item-preserved c =
    let items = c.as_slice-item-items.result.now in
    let rest = items_of (drop (c.loop-item.item-index + 1) items) in
    elim c.if-passes_system.branch [
      | then-passes_system w ↦
          ap (λ b. first_behind b c.args.name.now rest) w.is_behind-is
          ∙ behind-system c.args.name.now items c.loop-item.item-index c.item-item.result c.loop-item.is_behind
          c.loop-item-test.true c.item-item.is
          (sym c.passes_system.ensures ∙ w.if-passes_system.true)
          ∙ c.loop-item.invariant
      | else-passes_system+in_default w ↦
          ap (λ b. first_behind b c.args.name.now rest) w.is_behind-is
          ∙ found-later _ _ _ _ (ap option_copied (sym w.in_default.is) ∙ w.value_in_item.ensures)
          (behind-item c.args.name.now items c.loop-item.item-index c.item-item.result c.loop-item.is_behind
          c.loop-item-test.true c.item-item.is
          (sym c.passes_system.ensures ∙ w.if-passes_system.false))
          c.loop-item.invariant
    ]
