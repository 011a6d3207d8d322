use Rattle.std.proofs.Common.{sym, ◌∙◌, ap, map, arith}
use Rattle.c_syntax.specs.Tree.{branch, stmts_of_list}
use Rattle.c_syntax.specs.Plain.{stmt_tree}
use Rattle.c_syntax.proofs.lemmas.PlainLaws.{stmt_tree-If}
use Rattle.std.proofs.lemmas.List.{take_all}
use Rattle.c_renaming.proofs.Rows.{statements}
use Rattle.c_renaming.proofs.copying.+statement.Goals as goal

pub copied_stmt-returns-in_ok-on_false-in-If : goal.copied_stmt-returns-in_ok-on_false-in-If
copied_stmt-returns-in_ok-on_false-in-If t c =
    let i = c.in-If in
    let first = ap stmts_of_list c.in_ok-on_true-in-If.ensures ∙ ap statements c.deref.ensures.value in
    let second = ap stmts_of_list c.in_ok-on_false-in-If.ensures ∙ ap statements c.deref-in-If.ensures.value in
    c.choice.ensures
    ∙ (λ j. branch i.line (c.in_ok-test-in-If.ensures j) (first j) (second j))
    ∙ sym (ap stmt_tree i.is ∙ stmt_tree-If i.line i.test i.yes i.no)

pub copied_stmts-returns : goal.copied_stmts-returns
copied_stmts-returns t c =
    c.loop-s.invariant ∙ ap (map stmt_tree) (take_all c.loop-s.s-index c.args.ss.now (omega (arith, c.loop-s-test.false)))
