use Rattle.std.proofs.Common.{◌&&◌, sym, ap, ap₂, ◌∙◌, arith, eq-eqb}
use Rattle.c_syntax.proofs.lemmas.PlainLaws.{expr_tree-Pure}
use Rattle.c_syntax.specs.Plain.{expr_tree}
use Rattle.emit_fused.specs.Same.{same_expr, same_exprs}
use Rattle.emit_fused.proofs.Rows.{row, rows-differ, rows-stop, rows-next, rows-done}
use Rattle.emit_fused.proofs.sameness.+expression.Goals as goal

pub same_expr-returns-then-k-j : goal.same_expr-returns-then-k-j
same_expr-returns-then-k-j t c =
    let i = c.in-Pure-Pure in
    c.same_exprs.ensures
    ∙ (λ j. same_exprs (row (c.as_slice.ensures.value j)) (row (c.as_slice-then-k-j.ensures.value j)))
    ∙ sym (ap (λ b. b && same_exprs (row i.xs.items) (row i.ys.items)) (eq-eqb i.k i.j c.if-k-j.true))
    ∙ ap₂ same_expr (sym (ap expr_tree i.is-0 ∙ expr_tree-Pure i.k i.xs)) (sym (ap expr_tree i.is-1 ∙ expr_tree-Pure i.j i.ys))

pub same_exprs-returns-then-xs-ys : goal.same_exprs-returns-then-xs-ys
same_exprs-returns-then-xs-ys t c = sym (rows-differ c.args.xs.now c.args.ys.now c.if-xs-ys.true)

pub same_exprs-returns-then-not-same_expr : goal.same_exprs-returns-then-not-same_expr
same_exprs-returns-then-not-same_expr t c =
    let long = c.loop-position.invariant.long in
    let inside = c.loop-position-test.true in
    sym (rows-stop c.args.xs.now c.args.ys.now c.loop-position.position c.index-xs-position.result c.index-ys-position.result
    (omega (arith, inside)) (omega (arith, inside, long)) c.index-xs-position.is c.index-ys-position.is
    (sym c.same_expr.ensures ∙ c.if-not-same_expr.true))

pub same_exprs-loop-position-preserved : goal.same_exprs-loop-position-preserved
same_exprs-loop-position-preserved t c =
    let long = c.loop-position.invariant.long in
    let inside = c.loop-position-test.true in
    record {
      long = long;
      before = rows-next c.args.xs.now c.args.ys.now c.loop-position.position c.index-xs-position.result c.index-ys-position.result
          (omega (arith, inside)) (omega (arith, inside, long)) c.index-xs-position.is c.index-ys-position.is
          (sym c.same_expr.ensures ∙ c.if-not-same_expr.false) c.loop-position.invariant.before;
    }

pub same_exprs-returns : goal.same_exprs-returns
same_exprs-returns t c =
    let past = c.loop-position-test.false in
    sym (rows-done c.args.xs.now c.args.ys.now c.loop-position.position (omega (arith, past)) c.loop-position.invariant.long
    c.loop-position.invariant.before)
