use Rattle.std.proofs.Common.{sym, ◌∙◌, ap, map, List, [], arith}
use Rattle.c_syntax.specs.declared.code.Expr.{Expr}
use Rattle.c_syntax.specs.Tree.{ExprTree, pure, exprs_of_list}
use Rattle.c_syntax.specs.Plain.{expr_tree}
use Rattle.c_syntax.proofs.lemmas.PlainLaws.{expr_tree-Pure}
use Rattle.emit_shape.specs.Relocation.{moved_expr, moved_exprs}
use Rattle.emit_row_facts.proofs.lemmas.Steps.{mapped-next}
use Rattle.emit_linker.specs.Linked.{relocation}
use Rattle.emit_linker.proofs.MovedRows.{exprs-moved}
use Rattle.emit_linker.proofs.Steps.{seen-push}
use Rattle.emit_linker.proofs.exprs.+expression.Goals as goal

pub moved_expr-returns-in_ok-values-in-Pure : goal.moved_expr-returns-in_ok-values-in-Pure
moved_expr-returns-in_ok-values-in-Pure t c =
    let i = c.in-Pure in
    let m = relocation c.args.links.now in
    c.call_of_pure.ensures
    ∙ ap (pure i.k) (c.in_ok-values-in-Pure.ensures
    ∙ ap (λ (es : List Expr). moved_exprs m (exprs_of_list (map expr_tree es))) c.as_slice.ensures.value)
    ∙ ap (moved_expr m) (sym (ap expr_tree i.is ∙ expr_tree-Pure i.k i.values))

pub moved_exprs-loop-e-preserved : goal.moved_exprs-loop-e-preserved
moved_exprs-loop-e-preserved t c =
    let x = c.e-item.result in
    let moved : Expr → ExprTree = λ e. moved_expr (relocation c.args.links.now) (expr_tree e) in
    let list = c.loop-e.list.items in
    mapped-next moved c.args.es.now c.loop-e.e-index x [] (map expr_tree list) (map expr_tree c.push.new.self.items)
    c.loop-e-test.true c.e-item.is c.loop-e.invariant
    (seen-push expr_tree list c.push.new.self.items c.in_ok-moved_expr.field-0 (moved x) c.in_ok-push.ensures.items
    c.in_ok-moved_expr.ensures)

pub moved_exprs-returns : goal.moved_exprs-returns
moved_exprs-returns t c =
    exprs-moved (relocation c.args.links.now) c.args.es.now c.loop-e.list.items c.loop-e.e-index
    (omega (arith, c.loop-e-test.false)) c.loop-e.invariant
