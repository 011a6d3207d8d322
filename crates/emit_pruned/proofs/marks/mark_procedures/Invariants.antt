use Rattle.std.proofs.Common.{◌≡◌, take}
use Rattle.std.specs.List.{flat_map}
use Rattle.c_syntax.specs.Plain.{procedure_tree}
use Rattle.emit_pruned.specs.Calls.{stmts_functions}
use Rattle.emit_pruned.specs.Marks.{marked}
use Rattle.emit_pruned.proofs.marks.mark_procedures.Given as goal

abbrev pub invariant-loop-q : goal.invariant-loop-q
invariant-loop-q l =
    l.needed ≡ marked l.initial.needed (flat_map (λ q. stmts_functions (procedure_tree q).body) (take l.q-index l.procedures))
