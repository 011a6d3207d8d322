use Rattle.std.proofs.Common.{◌++◌, ◌∙◌, ap, sym, map, List, arith}
use Rattle.c_syntax.specs.declared.code.Stmt.{Stmt}
use Rattle.c_syntax.specs.Tree.{stmts_of_list}
use Rattle.c_syntax.specs.Plain.{cond_tree, stmt_tree}
use Rattle.c_syntax.proofs.lemmas.PlainLaws.{stmt_tree-If}
use Rattle.c_renaming.proofs.lemmas.OneByOne.{done-more}
use Rattle.emit_pruned.specs.Calls.{cond_functions, stmt_functions, stmts_functions}
use Rattle.emit_pruned.specs.Marks.{marked}
use Rattle.emit_pruned.proofs.lemmas.Flags.{marked_append}
use Rattle.emit_pruned.proofs.FlagLaws.{marked_two, stmts-done}
use Rattle.emit_pruned.proofs.marks.+statement.Goals as goal

pub mark_stmt-returns-in-If : goal.mark_stmt-returns-in-If
mark_stmt-returns-in-If t c =
    let i = c.in-If in
    let flags = c.args.needed.now in
    let test = cond_functions (cond_tree i.test) in
    let yes = stmts_functions (stmts_of_list (map stmt_tree i.yes.items)) in
    let no = stmts_functions (stmts_of_list (map stmt_tree i.no.items)) in
    let first =
    c.mark_stmts.ensures
    ∙ ap (λ (ss : List Stmt). marked c.mark_cond.new.needed (stmts_functions (stmts_of_list (map stmt_tree ss))))
    c.deref.ensures.value in
    let second =
    c.mark_stmts-in-If.ensures
    ∙ ap (λ (ss : List Stmt). marked c.mark_stmts.new.needed (stmts_functions (stmts_of_list (map stmt_tree ss))))
    c.deref-in-If.ensures.value in
    marked_two flags c.mark_stmts.new.needed c.mark_stmts-in-If.new.needed (test ++ yes) no
    (marked_two flags c.mark_cond.new.needed c.mark_stmts.new.needed test yes c.mark_cond.ensures first) second
    ∙ ap (λ tree. marked flags (stmt_functions tree)) (sym (ap stmt_tree i.is ∙ stmt_tree-If i.line i.test i.yes i.no))

pub mark_stmts-loop-s-preserved : goal.mark_stmts-loop-s-preserved
mark_stmts-loop-s-preserved t c =
    done-more marked marked_append (λ (s : Stmt). stmt_functions (stmt_tree s)) c.args.ss.now c.loop-s.s-index c.s-item.result c.args.needed.now
    c.loop-s.needed c.mark_stmt.new.needed
    (omega (arith, c.loop-s-test.true)) c.s-item.is c.loop-s.invariant c.mark_stmt.ensures

pub mark_stmts-returns : goal.mark_stmts-returns
mark_stmts-returns t c =
    stmts-done c.args.ss.now c.loop-s.s-index c.args.needed.now c.loop-s.needed (omega (arith, c.loop-s-test.false)) c.loop-s.invariant
