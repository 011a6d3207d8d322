use Rattle.std.proofs.Common.{arith, ap, sym, ◌∙◌, rules, SFits, w64}
use Rattle.std.proofs.Math.Facts.{to_z-of_z}
use Rattle.lustre_syntax.specs.Plain.{expr_tree}
use Rattle.lustre_flows.specs.Values.{holds}
use Rattle.lustre_evaluation.specs.Views.{before_by}
use Rattle.lustre_evaluation.proofs.Depths.{depth}
use Rattle.lustre_evaluation.proofs.Waiting.{second_waits, true_waits, false_waits, previous_waits}
use Rattle.lustre_evaluation.proofs.expressions.+evaluation.Goals as goal

pub evaluate_any-returns-in-Err-operand-clause-waits : goal.evaluate_any-returns-in-Err-operand-clause-waits
evaluate_any-returns-in-Err-operand-clause-waits t c =
    let view = c.args.view.now in
    second_waits (before_by view.begun view.before.now) view.values.now _ c.args.e.now _ _ c.deref-in-Two.result.now
    c.deref-in-Two-2.result.now c.in-Ok.x c.in-Err-operand.why (ap expr_tree c.in-Two.is) c.deref-in-Two.ensures
    c.deref-in-Two-2.ensures c.in-Ok.ensures.outcome c.in-Err-operand.ensures.waits

pub evaluate_any-returns-then-holds-clause-waits : goal.evaluate_any-returns-then-holds-clause-waits
evaluate_any-returns-then-holds-clause-waits t c =
    let view = c.args.view.now in
    let fits : SFits w64 c.in_ok-operand-in-If.field-0 = search rules in
    true_waits (before_by view.begun view.before.now) view.values.now c.args.e.now _ _ _ c.deref-in-If.result.now c.deref-then-holds.result.now
    c.in_ok-operand-in-If.field-0 _ (ap expr_tree c.in-If.is) c.deref-in-If.ensures c.deref-then-holds.ensures
    c.in_ok-operand-in-If.ensures.outcome (ap holds (sym (to_z-of_z fits)) ∙ sym c.holds-in-If.ensures ∙ c.if-holds.true)
    c.operand-then-holds.ensures.waits

pub evaluate_any-returns-else-holds-clause-waits : goal.evaluate_any-returns-else-holds-clause-waits
evaluate_any-returns-else-holds-clause-waits t c =
    let view = c.args.view.now in
    let fits : SFits w64 c.in_ok-operand-in-If.field-0 = search rules in
    false_waits (before_by view.begun view.before.now) view.values.now c.args.e.now _ _ _ c.deref-in-If.result.now c.deref-else-holds.result.now
    c.in_ok-operand-in-If.field-0 _ (ap expr_tree c.in-If.is) c.deref-in-If.ensures c.deref-else-holds.ensures
    c.in_ok-operand-in-If.ensures.outcome (ap holds (sym (to_z-of_z fits)) ∙ sym c.holds-in-If.ensures ∙ c.if-holds.false)
    c.operand-else-holds.ensures.waits

pub evaluate_any-returns-in-Pre-clause-waits : goal.evaluate_any-returns-in-Pre-clause-waits
evaluate_any-returns-in-Pre-clause-waits t c =
    let view = c.args.view.now in
    previous_waits (before_by view.begun view.before.now) view.values.now c.args.e.now c.in-Pre.name c.read_before.result
    (ap expr_tree c.in-Pre.is) (c.read_before.ensures.waits view.values.now)

pub operand-returns-in-Pre-clause-waits : goal.operand-returns-in-Pre-clause-waits
operand-returns-in-Pre-clause-waits t c =
    let view = c.args.view.now in
    previous_waits (before_by view.begun view.before.now) view.values.now c.args.e.now c.in-Pre.name c.read_before.result
    (ap expr_tree c.in-Pre.is) (c.read_before.ensures.waits view.values.now)

pub evaluate_any-operand-requires : goal.evaluate_any-operand-requires
evaluate_any-operand-requires t c = omega (arith, ap depth c.in-Neg.is, ap depth c.deref.ensures)

pub evaluate_any-operand-requires-in-Not : goal.evaluate_any-operand-requires-in-Not
evaluate_any-operand-requires-in-Not t c = omega (arith, ap depth c.in-Not.is, ap depth c.deref-in-Not.ensures)

pub evaluate_any-operand-requires-in-Two : goal.evaluate_any-operand-requires-in-Two
evaluate_any-operand-requires-in-Two t c = omega (arith, ap depth c.in-Two.is, ap depth c.deref-in-Two.ensures)

pub evaluate_any-operand-requires-in-Two-2 : goal.evaluate_any-operand-requires-in-Two-2
evaluate_any-operand-requires-in-Two-2 t c = omega (arith, ap depth c.in-Two.is, ap depth c.deref-in-Two-2.ensures)

pub evaluate_any-operand-requires-in-If : goal.evaluate_any-operand-requires-in-If
evaluate_any-operand-requires-in-If t c = omega (arith, ap depth c.in-If.is, ap depth c.deref-in-If.ensures)
