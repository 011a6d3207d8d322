use Rattle.std.proofs.Common.{◌++◌, ◌∙◌, ap, sym, map, List, arith}
use Rattle.c_syntax.specs.declared.code.Stmt.{Stmt}
use Rattle.c_syntax.specs.Tree.{stmts_of_list}
use Rattle.c_syntax.specs.Plain.{stmt_tree}
use Rattle.c_syntax.proofs.lemmas.PlainLaws.{stmt_tree-If}
use Rattle.c_renaming.proofs.lemmas.OneByOne.{done-more, done-all}
use Rattle.emit_inlined.specs.Inlined.{stmt_calls, stmts_calls}
use Rattle.emit_inlined.specs.Steps.{counted}
use Rattle.emit_inlined.proofs.CountLaws.{counted-append, stmts-flat}
use Rattle.emit_inlined.proofs.counting.+statement.Goals as goal

pub count_stmt-returns-in-If : goal.count_stmt-returns-in-If
count_stmt-returns-in-If t c =
    let i = c.in-If in
    let counts = c.args.counts.now in
    let yes = stmts_calls (stmts_of_list (map stmt_tree i.yes.items)) in
    let no = stmts_calls (stmts_of_list (map stmt_tree i.no.items)) in
    let first =
    c.count_stmts.ensures
    ∙ ap (λ (ss : List Stmt). counted counts (stmts_calls (stmts_of_list (map stmt_tree ss)))) c.deref.ensures.value in
    let second =
    c.count_stmts-in-If.ensures
    ∙ ap (λ (ss : List Stmt). counted c.count_stmts.new.counts (stmts_calls (stmts_of_list (map stmt_tree ss))))
    c.deref-in-If.ensures.value in
    second ∙ ap (λ xs. counted xs no) first ∙ sym (counted-append counts yes no)
    ∙ ap (λ tree. counted counts (stmt_calls tree)) (sym (ap stmt_tree i.is ∙ stmt_tree-If i.line i.test i.yes i.no))

pub count_stmts-loop-s-preserved : goal.count_stmts-loop-s-preserved
count_stmts-loop-s-preserved t c =
    done-more counted counted-append (λ (s : Stmt). stmt_calls (stmt_tree s)) c.args.ss.now c.loop-s.s-index c.s-item.result
    c.args.counts.now c.loop-s.counts c.count_stmt.new.counts
    (omega (arith, c.loop-s-test.true)) c.s-item.is c.loop-s.invariant c.count_stmt.ensures

pub count_stmts-returns : goal.count_stmts-returns
count_stmts-returns t c =
    done-all counted counted-append (λ (s : Stmt). stmt_calls (stmt_tree s)) c.args.ss.now c.loop-s.s-index c.args.counts.now
    c.loop-s.counts (stmts_calls (stmts_of_list (map stmt_tree c.args.ss.now))) (omega (arith, c.loop-s-test.false))
    (stmts-flat c.args.ss.now) c.loop-s.invariant
