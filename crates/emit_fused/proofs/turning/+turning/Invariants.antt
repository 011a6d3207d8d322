use Rattle.std.proofs.Common.{◌≡◌, ◌+◌, ◌*◌, ◌≤◌, vec_len}
use Rattle.c_syntax.specs.Limits.{stmt_depth, stmts_depth}
use Rattle.c_syntax.specs.Plain.{stmt_tree}
use Rattle.emit_fused.specs.Turned.{standing, turned}
use Rattle.emit_fused.specs.Fusion.{choice_tree}
use Rattle.emit_fused.proofs.TurnedLists.{both_ways}
use Rattle.emit_fused.proofs.turning.+turning.Given as goal

abbrev pub decreases-turned_stmt : goal.decreases-turned_stmt
decreases-turned_stmt l = 8 * stmt_depth (stmt_tree l.s) + 4

abbrev pub decreases-turned_choice : goal.decreases-turned_choice
decreases-turned_choice l = 8 * stmt_depth (choice_tree l.choice) + 3

abbrev pub decreases-turned_round : goal.decreases-turned_round
decreases-turned_round l = 8 * stmts_depth (standing l.ss.items) + 5

abbrev pub invariant-turned_round-loop-s : goal.invariant-turned_round-loop-s
invariant-turned_round-loop-s l = record {
  made : both_ways l.list.items (turned l.ss.items) ≡ turned l.fn.ss.items;
  depth : stmts_depth (standing l.ss.items) ≤ stmts_depth (standing l.fn.ss.items);
}

abbrev pub decreases-turned_round-loop-s : goal.decreases-turned_round-loop-s
decreases-turned_round-loop-s l = vec_len l.ss
