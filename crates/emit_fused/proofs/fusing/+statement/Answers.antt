use Rattle.std.proofs.Common.{◌∙◌, ap, sym, List}
use Rattle.c_syntax.specs.declared.code.Stmt.{Stmt}
use Rattle.c_syntax.specs.Tree.{branch}
use Rattle.c_syntax.specs.Plain.{stmt_tree}
use Rattle.c_syntax.proofs.lemmas.PlainLaws.{stmt_tree-If}
use Rattle.emit_fused.specs.Fused.{where_fails, fused_stmt, fused_stmts}
use Rattle.emit_fused.specs.Turned.{standing}
use Rattle.emit_fused.proofs.fusing.+statement.Goals as goal

pub fused_stmt-returns-in_ok-on_false-in-If : goal.fused_stmt-returns-in_ok-on_false-in-If
fused_stmt-returns-in_ok-on_false-in-If t c =
    let i = c.in-If in
    let test = c.in_ok-test-in-If.ensures in
    let first = c.in_ok-on_true-in-If.ensures ∙ ap (λ (ss : List Stmt). fused_stmts (standing ss)) c.deref.ensures.value in
    let second = c.in_ok-on_false-in-If.ensures ∙ ap (λ (ss : List Stmt). fused_stmts (standing ss)) c.deref-in-If.ensures.value in
    c.fused_choice.ensures
    ∙ (λ j. branch i.line (test j) (first j) (where_fails (test j) (second j)))
    ∙ ap fused_stmt (sym (ap stmt_tree i.is ∙ stmt_tree-If i.line i.test i.yes i.no))
