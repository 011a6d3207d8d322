use Rattle.std.proofs.Common.{◌≡◌, ◌++◌, map}
use Rattle.std.specs.Vec.Iter.{into_iter_items, into_iter_len}
use Rattle.c_syntax.specs.Plain.{stmt_tree}
use Rattle.emit_fused.specs.Turned.{simplified_stmt}
use Rattle.emit_fused.proofs.straight.simplified_stmts.Given as goal

abbrev pub invariant-loop-s : goal.invariant-loop-s
invariant-loop-s l =
    map stmt_tree l.list.items ++ map simplified_stmt (map stmt_tree (into_iter_items l.rest))
    ≡ map simplified_stmt (map stmt_tree l.fn.ss.items)

abbrev pub decreases-loop-s : goal.decreases-loop-s
decreases-loop-s l = into_iter_len l.rest
