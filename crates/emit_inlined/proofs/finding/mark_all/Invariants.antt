use Rattle.std.proofs.Common.{◌≡◌, take}
use Rattle.std.specs.List.{flat_map}
use Rattle.c_syntax.specs.Plain.{procedure_tree}
use Rattle.emit_pruned.specs.Marks.{flag_at, marked}
use Rattle.emit_inlined.specs.Steps.{helpers_of}
use Rattle.emit_inlined.proofs.finding.mark_all.Given as goal

abbrev pub invariant-loop-q : goal.invariant-loop-q
invariant-loop-q l =
    l.inlined ≡ marked l.initial.inlined (flat_map (λ q. helpers_of (flag_at l.helpers) (procedure_tree q)) (take l.q-index l.procedures))
