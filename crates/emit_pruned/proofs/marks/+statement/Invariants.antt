use Rattle.std.proofs.Common.{◌≡◌, take}
use Rattle.std.specs.List.{flat_map}
use Rattle.c_syntax.specs.Plain.{stmt_tree}
use Rattle.emit_pruned.specs.Calls.{stmt_functions}
use Rattle.emit_pruned.specs.Marks.{marked}
use Rattle.emit_pruned.proofs.marks.+statement.Given as goal

abbrev pub invariant-mark_stmts-loop-s : goal.invariant-mark_stmts-loop-s
invariant-mark_stmts-loop-s l =
    l.needed ≡ marked l.initial.needed (flat_map (λ s. stmt_functions (stmt_tree s)) (take l.s-index l.ss))
