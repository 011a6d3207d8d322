use Rattle.std.proofs.Common.{sym, ◌∙◌, ap, ◌++◌, arith, rules}
use Rattle.std.proofs.lemmas.Grind.{common_steps}
use Rattle.std.proofs.lemmas.Result.{IfOk-equal}
use Rattle.c_printer.specs.Printing.{noted_stmt_bytes}
use Rattle.c_syntax.specs.Plain.{stmt_tree}
use Rattle.c_printer.specs.VocabularyOf.{scope_notes, vocabulary_of}
use Rattle.c_syntax.proofs.lemmas.PlainLaws.{stmt_tree-If}
use Rattle.c_printer.proofs.PrintedLists.{stmts_bytes-flat, else_bytes-put, branch_bytes-put}
use Rattle.c_printer.proofs.printing.body.+statement.Goals as goal

pub put_else-returns : goal.put_else-returns
put_else-returns t c =
    IfOk-equal c.put_stmts.result _ _ _ c.put_stmts.ensures
    (else_bytes-put (scope_notes c.args.scope.now) (vocabulary_of c.args.scope.now) c.args.margin c.args.no.now c.args.out.now.items
    c.put_margin.new.out.items c.put.new.out.items c.deeper.result (search (rules)) c.in_ok-put_margin.ensures
    c.in_ok-put.ensures c.deeper.ensures)

pub put_stmt-returns-in_ok-put_else-in-If : goal.put_stmt-returns-in_ok-put_else-in-If
put_stmt-returns-in_ok-put_else-in-If t c =
    let notes = scope_notes c.args.scope.now in
    let v = vocabulary_of c.args.scope.now in
    IfOk-equal c.put_close.result _ _ _ c.put_close.ensures
    (branch_bytes-put notes v c.args.margin c.in-If.test c.in-If.yes.items c.in-If.no.items c.args.out.now.items
    c.put_test.new.out.items c.put_stmts.new.out.items c.put_else.new.out.items c.deeper.result c.deref.result.now
    c.deref-in-If.result.now c.in_ok-put_test-in-If.ensures c.in_ok-put_stmts-in-If.ensures
    c.in_ok-put_else-in-If.ensures c.deeper.ensures c.deref.ensures.value c.deref-in-If.ensures.value
    ∙ ap (λ s. c.args.out.now.items ++ noted_stmt_bytes notes v c.args.margin s)
    (sym (ap stmt_tree c.in-If.is ∙ stmt_tree-If c.in-If.line c.in-If.test c.in-If.yes c.in-If.no)))

pub put_stmts-returns : goal.put_stmts-returns
put_stmts-returns t c = grind (arith, common_steps, stmts_bytes-flat)
