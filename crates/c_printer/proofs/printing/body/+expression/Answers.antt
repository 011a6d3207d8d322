use Rattle.std.proofs.Common.{sym, ◌∙◌, ap, ◌++◌, map, arith}
use Rattle.std.proofs.lemmas.Grind.{common_steps}
use Rattle.std.proofs.lemmas.Result.{IfOk-equal}
use Rattle.c_syntax.specs.Plain.{expr_tree}
use Rattle.c_syntax.specs.Tree.{pure, exprs_of_list}
use Rattle.c_printer.specs.Printing.{expr_bytes}
use Rattle.c_printer.specs.VocabularyOf.{vocabulary_of}
use Rattle.c_syntax.proofs.lemmas.PlainLaws.{expr_tree-Pure}
use Rattle.c_printer.proofs.PrintedLists.{later_exprs_bytes-flat, item_bytes-put}
use Rattle.c_printer.proofs.printing.body.+expression.Goals as goal

pub put_expr-returns-in-Pure : goal.put_expr-returns-in-Pure
put_expr-returns-in-Pure t c =
    let v = vocabulary_of c.args.scope.now in
    IfOk-equal c.put_pure_call.result _ _ _ c.put_pure_call.ensures
    (ap (λ es. c.args.out.now.items ++ expr_bytes v (pure c.in-Pure.k (exprs_of_list (map expr_tree es))))
    c.deref-in-Pure.ensures.value
    ∙ ap (λ e. c.args.out.now.items ++ expr_bytes v e)
    (sym (ap expr_tree c.in-Pure.is ∙ expr_tree-Pure c.in-Pure.k c.in-Pure.values)))

pub put_expr-returns-in_ok-put_expr-in-At : goal.put_expr-returns-in_ok-put_expr-in-At
put_expr-returns-in_ok-put_expr-in-At t c =
    let v = vocabulary_of c.args.scope.now in
    IfOk-equal c.put-in-At-4.result _ _ _ c.put-in-At-4.ensures
    (item_bytes-put v c.in-At.field c.args.e.now c.in-At.index.value c.deref-in-At.result.now c.args.out.now.items
    c.put-in-At.new.out.items c.field_name.result.now c.put-in-At-2.new.out.items c.put-in-At-3.new.out.items
    c.put_expr-in-At.new.out.items (ap expr_tree c.in-At.is) c.deref-in-At.ensures c.field_name.ensures
    c.in_ok-put-in-At.ensures c.in_ok-put-in-At-2.ensures c.in_ok-put-in-At-3.ensures
    c.in_ok-put_expr-in-At.ensures)

pub put_exprs-returns : goal.put_exprs-returns
put_exprs-returns t c = grind (arith, common_steps, later_exprs_bytes-flat)
