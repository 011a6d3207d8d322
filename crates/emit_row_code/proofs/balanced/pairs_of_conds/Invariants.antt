use Rattle.std.proofs.Common.{◌≡◌, ◌++◌, map}
use Rattle.std.specs.Vec.Iter.{into_iter_items, into_iter_len}
use Rattle.c_syntax.specs.Plain.{cond_tree}
use Rattle.emit_row_code.specs.Balanced.{pairs}
use Rattle.emit_row_code.specs.Joints.{join_of}
use Rattle.emit_row_code.proofs.balanced.pairs_of_conds.Given as goal

abbrev pub invariant-loop-left : goal.invariant-loop-left
invariant-loop-left l =
    map cond_tree l.pairs.items ++ pairs (join_of l.joint) (map cond_tree (into_iter_items l.rest))
    ≡ pairs (join_of l.joint) (map cond_tree l.fn.parts.items)

abbrev pub decreases-loop-left : goal.decreases-loop-left
decreases-loop-left l = into_iter_len l.rest
