use Rattle.std.proofs.Common.{◌∙◌, ap, map, List, arith}
use Rattle.c_syntax.specs.declared.code.Stmt.{Stmt}
use Rattle.c_syntax.specs.declared.program.Procedure.{Procedure}
use Rattle.c_syntax.specs.Tree.{stmts_of_list}
use Rattle.c_syntax.specs.Plain.{stmt_tree, procedure_tree}
use Rattle.c_renaming.proofs.lemmas.OneByOne.{done-more}
use Rattle.emit_pruned.specs.Calls.{stmts_functions}
use Rattle.emit_pruned.specs.Marks.{marked}
use Rattle.emit_pruned.proofs.lemmas.Flags.{marked_append}
use Rattle.emit_pruned.proofs.FlagLaws.{procedures-done}
use Rattle.emit_pruned.proofs.marks.mark_procedures.Goals as goal

pub loop-q-preserved : goal.loop-q-preserved
loop-q-preserved c =
    done-more marked marked_append (λ (q : Procedure). stmts_functions (procedure_tree q).body) c.args.procedures.now c.loop-q.q-index c.q-item.result
    c.args.needed.now c.loop-q.needed c.mark_stmts.new.needed
    (omega (arith, c.loop-q-test.true)) c.q-item.is c.loop-q.invariant
    (c.mark_stmts.ensures
    ∙ ap (λ (ss : List Stmt). marked c.loop-q.needed (stmts_functions (stmts_of_list (map stmt_tree ss)))) c.as_slice.ensures.value)

pub returns : goal.returns
returns c =
    procedures-done c.args.procedures.now c.loop-q.q-index c.args.needed.now c.loop-q.needed
    (omega (arith, c.loop-q-test.false)) c.loop-q.invariant
