use Rattle.std.proofs.Common.{◌≡◌, ◌+◌, ◌*◌, ◌≤◌, max}
use Rattle.std.specs.Vec.Iter.{into_iter_items, into_iter_len}
use Rattle.c_syntax.specs.Limits.{stmt_depth, stmts_depth}
use Rattle.c_syntax.specs.Plain.{stmt_tree}
use Rattle.emit_fused.specs.Fused.{joined}
use Rattle.emit_fused.specs.Turned.{standing, turned}
use Rattle.emit_fused.specs.Fusion.{choice_tree}
use Rattle.emit_fused.proofs.TurnedLists.{walked}
use Rattle.emit_fused.proofs.joining.+joining.Given as goal

abbrev pub decreases-push_before : goal.decreases-push_before
decreases-push_before l = 8 * stmt_depth (stmt_tree l.first) + 4

abbrev pub decreases-push_choice : goal.decreases-push_choice
decreases-push_choice l = 8 * stmt_depth (choice_tree l.first) + 3

abbrev pub decreases-push_neighbours : goal.decreases-push_neighbours
decreases-push_neighbours l = 8 * stmt_depth (choice_tree l.first) + 2

abbrev pub decreases-joined_choice : goal.decreases-joined_choice
decreases-joined_choice l = 8 * max (stmts_depth (standing l.first.yes.items)) (stmts_depth (standing l.first.no.items)) + 6

abbrev pub decreases-joined : goal.decreases-joined
decreases-joined l = 8 * stmts_depth (standing l.first.items) + 5

abbrev pub invariant-joined-loop-s : goal.invariant-joined-loop-s
invariant-joined-loop-s l = record {
  made : walked (into_iter_items l.rest) (turned l.list.items) ≡ joined (turned l.fn.first.items) (turned l.fn.later.items);
  depth : stmts_depth (standing (into_iter_items l.rest)) ≤ stmts_depth (standing l.fn.first.items);
}

abbrev pub decreases-joined-loop-s : goal.decreases-joined-loop-s
decreases-joined-loop-s l = into_iter_len l.rest
