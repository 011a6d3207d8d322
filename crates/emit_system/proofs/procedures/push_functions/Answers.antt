use Rattle.std.proofs.Common.{◌∙◌, ◌+◌, ℕ, List, ap, map, arith}
use Rattle.c_syntax.specs.Plain.{procedure_tree}
use Rattle.emit_system_spec.specs.EmittedCode.{function_procedure}
use Rattle.emit_system.proofs.Placed.{enumerated_more}
use Rattle.emit_system.proofs.procedures.push_functions.Goals as goal

pub loop-k-preserved : goal.loop-k-preserved
loop-k-preserved c =
    let of = c.args.layout.now in
    let k = c.loop-k.k in
    ap (map procedure_tree) c.in_ok-push.ensures.items
    ∙ enumerated_more procedure_tree (function_procedure of.local of.profile of.schedule) 1
    (k + 1) c.args.procedures.now.items c.loop-k.procedures.items c.in_ok-function_procedure.field-0
    c.args.functions.now k c.index-functions-k.result (omega arith) c.loop-k-test.true c.index-functions-k.is
    (c.in_ok-function_procedure.ensures ∙ ap
    (λ (groups : List ℕ). function_procedure of.local of.profile of.schedule (k + 1, groups)) c.numbers.ensures) c.loop-k.invariant
