use Rattle.std.proofs.Common.{sym, ◌∙◌, ap, arith}
use Rattle.c_syntax.specs.Tree.{pure}
use Rattle.c_syntax.specs.Plain.{expr_tree}
use Rattle.c_syntax.proofs.lemmas.PlainLaws.{expr_tree-Pure}
use Rattle.emit_fused.specs.Simplified.{simplified_expr, simplified_exprs}
use Rattle.emit_fused.proofs.Rows.{row, exprs-simplified}
use Rattle.emit_fused.proofs.simplifying.+expression.Goals as goal

pub simplified_expr-returns-in_ok-values-in-Pure : goal.simplified_expr-returns-in_ok-values-in-Pure
simplified_expr-returns-in_ok-values-in-Pure t c =
    let i = c.in-Pure in
    c.call_of_pure.ensures
    ∙ ap (pure i.function) (c.in_ok-values-in-Pure.ensures ∙ ap (λ es. simplified_exprs (row es)) c.as_slice.ensures.value)
    ∙ ap simplified_expr (sym (ap expr_tree i.is ∙ expr_tree-Pure i.function i.values))

pub simplified_exprs-returns : goal.simplified_exprs-returns
simplified_exprs-returns t c =
    exprs-simplified c.args.es.now c.loop-e.list.items c.loop-e.e-index (omega (arith, c.loop-e-test.false)) c.loop-e.invariant
