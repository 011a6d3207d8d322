use Rattle.std.proofs.Common.{◌≡◌, take}
use Rattle.std.specs.List.{flat_map}
use Rattle.c_syntax.specs.Plain.{stmt_tree}
use Rattle.emit_pruned.specs.Marks.{flag_at, marked}
use Rattle.emit_inlined.specs.Steps.{stmt_helpers}
use Rattle.emit_inlined.proofs.finding.mark_helpers.Given as goal

abbrev pub invariant-loop-s : goal.invariant-loop-s
invariant-loop-s l =
    l.inlined ≡ marked l.initial.inlined (flat_map (λ s. stmt_helpers (flag_at l.helpers) (stmt_tree s)) (take l.s-index l.ss))
