use Rattle.std.proofs.Common.{◌≡◌, take}
use Rattle.std.specs.List.{flat_map}
use Rattle.c_syntax.specs.Plain.{stmt_tree}
use Rattle.emit_inlined.specs.Inlined.{stmt_calls}
use Rattle.emit_inlined.specs.Steps.{counted}
use Rattle.emit_inlined.proofs.counting.+statement.Given as goal

abbrev pub invariant-count_stmts-loop-s : goal.invariant-count_stmts-loop-s
invariant-count_stmts-loop-s l = l.counts ≡ counted l.initial.counts (flat_map (λ s. stmt_calls (stmt_tree s)) (take l.s-index l.ss))
