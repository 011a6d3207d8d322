use Rattle.std.proofs.Common.{◌∙◌, ap, map, List, arith}
use Rattle.std.specs.List.{flat_map}
use Rattle.c_syntax.specs.declared.code.Stmt.{Stmt}
use Rattle.c_syntax.specs.declared.program.Procedure.{Procedure}
use Rattle.c_syntax.specs.Tree.{ProcedureTree, stmts_of_list}
use Rattle.c_syntax.specs.Plain.{stmt_tree, procedure_tree}
use Rattle.c_renaming.proofs.lemmas.OneByOne.{done-more, done-all, procedures-flat}
use Rattle.emit_inlined.specs.Inlined.{stmts_calls}
use Rattle.emit_inlined.specs.Steps.{counted}
use Rattle.emit_inlined.proofs.CountLaws.{counted-append}
use Rattle.emit_inlined.proofs.counting.count_procedures.Goals as goal

pub loop-q-preserved : goal.loop-q-preserved
loop-q-preserved c =
    done-more counted counted-append (λ (q : Procedure). stmts_calls (procedure_tree q).body) c.args.procedures.now c.loop-q.q-index
    c.q-item.result c.args.counts.now c.loop-q.counts c.count_stmts.new.counts
    (omega (arith, c.loop-q-test.true)) c.q-item.is c.loop-q.invariant
    (c.count_stmts.ensures
    ∙ ap (λ (ss : List Stmt). counted c.loop-q.counts (stmts_calls (stmts_of_list (map stmt_tree ss)))) c.as_slice.ensures.value)

pub returns : goal.returns
returns c =
    done-all counted counted-append (λ (q : Procedure). stmts_calls (procedure_tree q).body) c.args.procedures.now c.loop-q.q-index
    c.args.counts.now c.loop-q.counts (flat_map (λ (q : ProcedureTree). stmts_calls q.body) (map procedure_tree c.args.procedures.now))
    (omega (arith, c.loop-q-test.false)) (procedures-flat (λ (q : ProcedureTree). stmts_calls q.body) c.args.procedures.now)
    c.loop-q.invariant
