use Rattle.std.proofs.Common.{◌≡◌, sym, ◌∙◌, ap, subst, map, drop, List, ◌+◌, ◌++◌, arith}
use Rattle.c_rules.proofs.lemmas.Each.{map_push}
use Rattle.c_rules.proofs.lemmas.ParamLaws.{from_place}
use Rattle.c_syntax.specs.declared.code.Expr.{Expr}
use Rattle.c_syntax.specs.Tree.{ExprTrees, pure, exprs_of_list}
use Rattle.c_syntax.specs.Plain.{expr_tree}
use Rattle.c_syntax.proofs.lemmas.PlainLaws.{expr_tree-Pure}
use Rattle.lustre_syntax.specs.declared.code.LusExpr.{LusExpr}
use Rattle.lustre_syntax.specs.Plain as lustre
use Rattle.lustre_system.specs.FromC as from_c
use Rattle.lustre_expressions.specs.Placed.{placed_value, placed_values, placed_calls, all_placed_calls}
use Rattle.lustre_expressions.proofs.Walks.{Walked, walk-on, values-end, calls-end, count-end, calls-of-pure, value-of-pure}
use Rattle.lustre_expressions.proofs.translation.+translation.Goals as goal

pub value_from-returns-in_ok-place-in-Pure-clause-value : goal.value_from-returns-in_ok-place-in-Pure-clause-value
value_from-returns-in_ok-place-in-Pure-clause-value g t c =
    let i = c.in-Pure in
    let p = g.N.Naming.naming c.args.names.now in
    let n = c.args.calls.now.count in
    let same : exprs_of_list (map expr_tree c.as_slice.result.now) ≡ exprs_of_list (map expr_tree i.values.items) =
    ap (λ (es : List Expr). exprs_of_list (map expr_tree es)) c.as_slice.ensures.value in
    value-of-pure p n i.function (exprs_of_list (map expr_tree i.values.items)) c.in_ok-place-in-Pure.place
    c.values_from.new.calls.count (c.in_ok-values-in-Pure.ensures.count ∙ ap (λ es. n + from_c.call_counts es) same)
    c.in_ok-place-in-Pure.ensures.place
    ∙ ap (placed_value p n) (sym (ap expr_tree i.is ∙ expr_tree-Pure i.function i.values))

pub value_from-returns-in_ok-place-in-Pure-clause-calls : goal.value_from-returns-in_ok-place-in-Pure-clause-calls
value_from-returns-in_ok-place-in-Pure-clause-calls g t c =
    let i = c.in-Pure in
    let p = g.N.Naming.naming c.args.names.now in
    let n = c.args.calls.now.count in
    let before = map lustre.equation_tree c.args.calls.now.equations.items in
    let same : exprs_of_list (map expr_tree c.as_slice.result.now) ≡ exprs_of_list (map expr_tree i.values.items) =
    ap (λ (es : List Expr). exprs_of_list (map expr_tree es)) c.as_slice.ensures.value in
    calls-of-pure p n i.function (exprs_of_list (map expr_tree i.values.items)) before
    (map lustre.equation_tree c.values_from.new.calls.equations.items)
    (map lustre.equation_tree c.push_call.new.calls.equations.items) c.in_ok-place-in-Pure.place
    c.values_from.new.calls.count (map lustre.expr_tree c.in_ok-values-in-Pure.values.items)
    (subst (λ (es : ExprTrees). map lustre.equation_tree c.values_from.new.calls.equations.items
    ≡ before ++ all_placed_calls p n es) same c.in_ok-values-in-Pure.ensures.calls)
    (c.in_ok-values-in-Pure.ensures.count ∙ ap (λ es. n + from_c.call_counts es) same)
    (c.in_ok-values-in-Pure.ensures.value ∙ ap (placed_values p n) same)
    c.in_ok-place-in-Pure.ensures.place c.in_ok-place-in-Pure.ensures.calls
    ∙ ap (λ e. before ++ placed_calls p n e) (sym (ap expr_tree i.is ∙ expr_tree-Pure i.function i.values))

pub value_from-returns-in_ok-place-in-Pure-clause-count : goal.value_from-returns-in_ok-place-in-Pure-clause-count
value_from-returns-in_ok-place-in-Pure-clause-count g t c =
    let i = c.in-Pure in
    let n = c.args.calls.now.count in
    let whole = ap from_c.call_count (sym (ap expr_tree i.is ∙ expr_tree-Pure i.function i.values)) in
    let values = c.in_ok-values-in-Pure.ensures.count
    ∙ ap (λ (es : List Expr). n + from_c.call_counts (exprs_of_list (map expr_tree es))) c.as_slice.ensures.value in
    let last = c.in_ok-place-in-Pure.ensures.count in
    omega (arith, whole, values, last)

pub values_from-loop-e-preserved : goal.values_from-loop-e-preserved
values_from-loop-e-preserved g t c =
    let p = g.N.Naming.naming c.args.names.now in
    let n = c.args.calls.now.count in
    let es = c.args.es.now in
    let i = c.loop-e.e-index in
    let x = c.e-item.result in
    let all = exprs_of_list (map expr_tree es) in
    let rest = exprs_of_list (map expr_tree (drop (i + 1) es)) in
    let before = map lustre.equation_tree c.args.calls.now.equations.items in
    let list = map lustre.expr_tree c.loop-e.list.items in
    let now = map lustre.equation_tree c.loop-e.calls.equations.items in
    let later = map lustre.equation_tree c.value_from.new.calls.equations.items in
    let m = c.value_from.new.calls.count in
    let step = walk-on p n all before list now later c.loop-e.calls.count m (expr_tree x) rest
    (lustre.expr_tree c.in_ok-value_from.field-0)
    (subst (Walked p n all before list now c.loop-e.calls.count)
    (ap exprs_of_list (from_place expr_tree es i x c.loop-e-test.true c.e-item.is)) c.loop-e.invariant)
    c.in_ok-value_from.ensures.value c.in_ok-value_from.ensures.calls c.in_ok-value_from.ensures.count in
    subst (λ l. Walked p n all before l later m rest)
    (map_push lustre.expr_tree c.loop-e.list.items c.in_ok-value_from.field-0
    ∙ ap (λ (l : List LusExpr). map lustre.expr_tree l) (sym c.in_ok-push.ensures.items)) step

pub values_from-returns-clause-value : goal.values_from-returns-clause-value
values_from-returns-clause-value g t c =
    values-end (g.N.Naming.naming c.args.names.now) c.args.calls.now.count
    (map lustre.equation_tree c.args.calls.now.equations.items) (map lustre.expr_tree c.loop-e.list.items)
    (map lustre.equation_tree c.loop-e.calls.equations.items) c.loop-e.calls.count c.args.es.now c.loop-e.e-index
    (omega (arith, c.loop-e-test.false, c.loop-e.auto.e-index-end)) c.loop-e.invariant

pub values_from-returns-clause-calls : goal.values_from-returns-clause-calls
values_from-returns-clause-calls g t c =
    calls-end (g.N.Naming.naming c.args.names.now) c.args.calls.now.count
    (map lustre.equation_tree c.args.calls.now.equations.items) (map lustre.expr_tree c.loop-e.list.items)
    (map lustre.equation_tree c.loop-e.calls.equations.items) c.loop-e.calls.count c.args.es.now c.loop-e.e-index
    (omega (arith, c.loop-e-test.false, c.loop-e.auto.e-index-end)) c.loop-e.invariant

pub values_from-returns-clause-count : goal.values_from-returns-clause-count
values_from-returns-clause-count g t c =
    count-end (g.N.Naming.naming c.args.names.now) c.args.calls.now.count
    (map lustre.equation_tree c.args.calls.now.equations.items) (map lustre.expr_tree c.loop-e.list.items)
    (map lustre.equation_tree c.loop-e.calls.equations.items) c.loop-e.calls.count c.args.es.now c.loop-e.e-index
    (omega (arith, c.loop-e-test.false, c.loop-e.auto.e-index-end)) c.loop-e.invariant
