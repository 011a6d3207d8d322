use Rattle.std.proofs.Common.{◌∙◌, ap, sym, map, arith}
use Rattle.c_syntax.specs.declared.code.Expr.{Expr}
use Rattle.c_syntax.specs.Tree.{exprs_of_list}
use Rattle.c_syntax.specs.Plain.{expr_tree}
use Rattle.c_syntax.proofs.lemmas.PlainLaws.{expr_tree-Pure}
use Rattle.c_renaming.proofs.lemmas.OneByOne.{done-more}
use Rattle.emit_pruned.specs.Calls.{expr_functions, exprs_functions}
use Rattle.emit_pruned.specs.Marks.{marked}
use Rattle.emit_pruned.proofs.lemmas.Flags.{marked_append}
use Rattle.emit_pruned.proofs.FlagLaws.{exprs-done}
use Rattle.emit_pruned.proofs.marks.+expression.Goals as goal

pub mark_expr-returns-in-Pure : goal.mark_expr-returns-in-Pure
mark_expr-returns-in-Pure t c =
    let i = c.in-Pure in
    let flags = c.args.needed.now in
    c.mark_exprs.ensures
    ∙ (λ j. marked (c.mark.ensures j) (exprs_functions (exprs_of_list (map expr_tree (c.as_slice.ensures.value j)))))
    ∙ ap (λ tree. marked flags (expr_functions tree)) (sym (ap expr_tree i.is ∙ expr_tree-Pure i.function i.values))

pub mark_exprs-loop-e-preserved : goal.mark_exprs-loop-e-preserved
mark_exprs-loop-e-preserved t c =
    done-more marked marked_append (λ (e : Expr). expr_functions (expr_tree e)) c.args.es.now c.loop-e.e-index c.e-item.result c.args.needed.now
    c.loop-e.needed c.mark_expr.new.needed
    (omega (arith, c.loop-e-test.true)) c.e-item.is c.loop-e.invariant c.mark_expr.ensures

pub mark_exprs-returns : goal.mark_exprs-returns
mark_exprs-returns t c =
    exprs-done c.args.es.now c.loop-e.e-index c.args.needed.now c.loop-e.needed (omega (arith, c.loop-e-test.false)) c.loop-e.invariant
