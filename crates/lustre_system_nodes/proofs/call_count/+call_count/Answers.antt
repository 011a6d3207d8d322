use Rattle.std.proofs.Common.{◌≡◌, ◌+◌, List, map, length, ap, sym, subst, ◌∙◌, arith, IfOk}
use Rattle.c_rules.proofs.lemmas.ParamLaws.{from_place, from_end}
use Rattle.c_syntax.specs.declared.code.Expr.{Expr}
use Rattle.c_syntax.specs.Plain.{expr_tree}
use Rattle.c_syntax.specs.Tree.{exprs_of_list}
use Rattle.c_syntax.proofs.lemmas.PlainLaws.{expr_tree-Pure}
use Rattle.lustre_system.specs.FromC as from_c
use Rattle.lustre_system_nodes.proofs.call_count.+call_count.Goals as goal

pub call_count-returns-in_ok-call_counts-in-Pure : goal.call_count-returns-in_ok-call_counts-in-Pure
call_count-returns-in_ok-call_counts-in-Pure t c =
    let i = c.in-Pure in
    let whole : from_c.call_count (expr_tree c.args.e.now) ≡ from_c.call_counts (exprs_of_list (map expr_tree i.values.items)) + 1 =
    ap from_c.call_count (ap expr_tree i.is ∙ expr_tree-Pure i.field-0 i.values) in
    let parts : c.in_ok-call_counts-in-Pure.field-0 ≡ from_c.call_counts (exprs_of_list (map expr_tree i.values.items)) =
    c.in_ok-call_counts-in-Pure.ensures
    ∙ ap (λ (es : List Expr). from_c.call_counts (exprs_of_list (map expr_tree es))) c.as_slice.ensures.value in
    subst (λ k. IfOk c.sum-in-Pure.result (λ n. n ≡ k)) (ap (λ n. n + 1) parts ∙ sym whole) c.sum-in-Pure.ensures

pub call_counts-loop-e-preserved : goal.call_counts-loop-e-preserved
call_counts-loop-e-preserved t c =
    let i = c.loop-e.e-index in
    let x = c.e-item.result in
    let next = ap (λ es. from_c.call_counts (exprs_of_list es)) (from_place expr_tree c.args.es.now i x c.loop-e-test.true c.e-item.is) in
    let before = c.loop-e.invariant in
    let one = c.in_ok-call_count.ensures in
    let more = c.in_ok-count.ensures in
    omega (arith, next, before, one, more)

pub call_counts-returns : goal.call_counts-returns
call_counts-returns t c =
    let past : length c.args.es.now ≡ c.loop-e.e-index = omega (arith, c.loop-e-test.false, c.loop-e.auto.e-index-end) in
    let none = ap (λ es. from_c.call_counts (exprs_of_list es)) (from_end expr_tree c.args.es.now c.loop-e.e-index past) in
    let all = c.loop-e.invariant in
    omega (arith, none, all)
