use Rattle.std.proofs.Common.{◌≡◌, take}
use Rattle.std.specs.List.{flat_map}
use Rattle.c_syntax.specs.Plain.{procedure_tree}
use Rattle.emit_inlined.specs.Inlined.{stmts_calls}
use Rattle.emit_inlined.specs.Steps.{counted}
use Rattle.emit_inlined.proofs.counting.count_procedures.Given as goal

abbrev pub invariant-loop-q : goal.invariant-loop-q
invariant-loop-q l =
    l.counts ≡ counted l.initial.counts (flat_map (λ q. stmts_calls (procedure_tree q).body) (take l.q-index l.procedures))
