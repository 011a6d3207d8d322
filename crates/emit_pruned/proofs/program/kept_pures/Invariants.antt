use Rattle.std.proofs.Common.{◌≡◌, ◌+◌, length, map}
use Rattle.std.specs.Vec.Iter.{into_iter_items, into_iter_len}
use Rattle.c_syntax.specs.Plain.{pure_tree}
use Rattle.emit_pruned.specs.Marks.{flag_at}
use Rattle.emit_pruned.proofs.PlaceLaws.{KeptSoFar}
use Rattle.emit_pruned.proofs.program.kept_pures.Given as goal

abbrev pub invariant-loop-f : goal.invariant-loop-f
invariant-loop-f l =
    (l.position + length (into_iter_items l.rest) ≡ length l.needed)
    × KeptSoFar (flag_at l.needed) (map pure_tree l.list.items) l.position (map pure_tree (into_iter_items l.rest))
    (map pure_tree l.fn.pures.items)

abbrev pub decreases-loop-f : goal.decreases-loop-f
decreases-loop-f l = into_iter_len l.rest
