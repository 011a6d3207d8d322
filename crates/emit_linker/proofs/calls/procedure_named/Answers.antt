use Rattle.std.proofs.Common.{bytes_eq, sym, ◌∙◌}
use Rattle.c_syntax.specs.Tree.{ProcedureTree}
use Rattle.c_syntax.specs.Plain.{procedure_tree}
use Rattle.emit_linker.proofs.Steps.{seen-at, seen-not}
use Rattle.emit_linker.proofs.calls.procedure_named.Goals as goal

pub returns-then-is_named : goal.returns-then-is_named
returns-then-is_named c =
    seen-at procedure_tree (λ (q : ProcedureTree). bytes_eq q.name c.args.name.now) c.args.procedures.now c.loop-q.q-index c.q-item.result
    c.loop-q-test.true c.q-item.is c.loop-q.invariant (sym c.is_named.ensures ∙ c.if-is_named.true)

pub loop-q-preserved : goal.loop-q-preserved
loop-q-preserved c =
    seen-not procedure_tree (λ (q : ProcedureTree). bytes_eq q.name c.args.name.now) c.args.procedures.now c.loop-q.q-index
    c.q-item.result c.loop-q-test.true c.q-item.is c.loop-q.invariant (sym c.is_named.ensures ∙ c.if-is_named.false)
