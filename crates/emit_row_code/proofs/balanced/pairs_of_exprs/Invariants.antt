use Rattle.std.proofs.Common.{◌≡◌, ◌++◌, map}
use Rattle.std.specs.Vec.Iter.{into_iter_items, into_iter_len}
use Rattle.c_syntax.specs.Plain.{expr_tree}
use Rattle.c_syntax.specs.Tree as tree
use Rattle.emit_row_code.specs.Balanced.{pairs}
use Rattle.emit_row_code.proofs.balanced.pairs_of_exprs.Given as goal

abbrev pub invariant-loop-left : goal.invariant-loop-left
invariant-loop-left l =
    map expr_tree l.pairs.items ++ pairs (tree.binary l.op) (map expr_tree (into_iter_items l.rest))
    ≡ pairs (tree.binary l.op) (map expr_tree l.fn.parts.items)

abbrev pub decreases-loop-left : goal.decreases-loop-left
decreases-loop-left l = into_iter_len l.rest
