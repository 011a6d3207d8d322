use Rattle.std.proofs.Common.{sym, ◌∙◌, ap, map, List, [], arith}
use Rattle.c_syntax.specs.declared.code.Stmt.{Stmt}
use Rattle.c_syntax.specs.Tree.{StmtTree, branch, stmts_of_list}
use Rattle.c_syntax.specs.Plain.{stmt_tree}
use Rattle.c_syntax.proofs.lemmas.PlainLaws.{stmt_tree-If}
use Rattle.emit_shape.specs.Relocation.{moved_stmt, moved_stmts}
use Rattle.emit_row_facts.proofs.lemmas.Steps.{mapped-next}
use Rattle.emit_linker.specs.Linked.{relocation}
use Rattle.emit_linker.proofs.MovedRows.{stmts-moved}
use Rattle.emit_linker.proofs.Steps.{seen-push}
use Rattle.emit_linker.proofs.stmts.+statement.Goals as goal

pub moved_stmt-returns-in_ok-test-in-If : goal.moved_stmt-returns-in_ok-test-in-If
moved_stmt-returns-in_ok-test-in-If t c =
    let i = c.in-If in
    let m = relocation c.args.links.now in
    let first = c.in_ok-on_true-in-If.ensures
    ∙ ap (λ (ss : List Stmt). moved_stmts m (stmts_of_list (map stmt_tree ss))) c.deref.ensures.value in
    let second = c.in_ok-on_false-in-If.ensures
    ∙ ap (λ (ss : List Stmt). moved_stmts m (stmts_of_list (map stmt_tree ss))) c.deref-in-If.ensures.value in
    c.choice.ensures
    ∙ (λ j. branch i.line (c.in_ok-test-in-If.ensures j) (first j) (second j))
    ∙ ap (moved_stmt m) (sym (ap stmt_tree i.is ∙ stmt_tree-If i.line i.test i.yes i.no))

pub moved_stmts-loop-s-preserved : goal.moved_stmts-loop-s-preserved
moved_stmts-loop-s-preserved t c =
    let x = c.s-item.result in
    let moved : Stmt → StmtTree = λ s. moved_stmt (relocation c.args.links.now) (stmt_tree s) in
    let list = c.loop-s.list.items in
    mapped-next moved c.args.ss.now c.loop-s.s-index x [] (map stmt_tree list) (map stmt_tree c.push.new.self.items)
    c.loop-s-test.true c.s-item.is c.loop-s.invariant
    (seen-push stmt_tree list c.push.new.self.items c.in_ok-moved_stmt.field-0 (moved x) c.in_ok-push.ensures.items
    c.in_ok-moved_stmt.ensures)

pub moved_stmts-returns : goal.moved_stmts-returns
moved_stmts-returns t c =
    stmts-moved (relocation c.args.links.now) c.args.ss.now c.loop-s.list.items c.loop-s.s-index
    (omega (arith, c.loop-s-test.false)) c.loop-s.invariant
