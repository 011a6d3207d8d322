use Rattle.std.proofs.Common.{◌≡◌, ◌+◌, ◌*◌, map, take, drop, ℕ, max}
use Rattle.c_syntax.specs.Plain.{stmt_tree, program_tree}
use Rattle.c_syntax.specs.Limits.{stmt_depth, stmts_depth}
use Rattle.c_syntax.specs.Tree.{stmts_of_list}
use Rattle.c_semantics.specs.Machine.{run_stmts}
use Rattle.c_interpreter.specs.Sound.{AreSoundStmts}
use Rattle.c_interpreter.specs.Seen.{seen, IsCounted}
use Rattle.c_interpreter.specs.Frames.{cells_in, scope_in}
use Rattle.c_interpreter.proofs.Measures.{procs_depth}
use Rattle.c_interpreter.specs.declared.frames.Frame.{Frame}
use Rattle.c_interpreter.proofs.statements.+statement.Given as goal

abbrev pub before : Frame → ℕ
before f = procs_depth (take f.level (program_tree f.code.program).procedures)

abbrev pub decreases-run : goal.decreases-run
decreases-run l = before l.frame.now + 4 * stmt_depth (stmt_tree l.stmt.now) + 2

abbrev pub decreases-run_all : goal.decreases-run_all
decreases-run_all l = before l.frame.now + 4 * stmts_depth (stmts_of_list (map stmt_tree l.stmts.now)) + 3

abbrev pub decreases-run_at : goal.decreases-run_at
decreases-run_at l = before l.frame.now + 2

abbrev pub decreases-call_into : goal.decreases-call_into
decreases-call_into l = before l.frame.now + 3

abbrev pub decreases-call_many : goal.decreases-call_many
decreases-call_many l = before l.frame.now + 4

abbrev pub decreases-run_call : goal.decreases-run_call
decreases-run_call l = before l.frame.now + 5

abbrev pub decreases-run_if : goal.decreases-run_if
decreases-run_if l =
    before l.frame.now
    + 4 * (max (stmts_depth (stmts_of_list (map stmt_tree l.branch.now.on_true.now)))
    (stmts_depth (stmts_of_list (map stmt_tree l.branch.now.on_false.now))) + 1) + 1

abbrev pub decreases-run_procedure : goal.decreases-run_procedure
decreases-run_procedure l = before l.frame.now + 1

abbrev pub invariant-run_all-loop-i : goal.invariant-run_all-loop-i
invariant-run_all-loop-i l =
    let p = program_tree l.frame.code.program in
    record {
      sound : AreSoundStmts p l.frame.level l.frame.of (stmts_of_list (map stmt_tree (drop l.i l.stmts)));
      counted : IsCounted l.cost;
      value : seen l.initial.cost.calls
          (run_stmts (scope_in l.frame) (stmts_of_list (map stmt_tree l.stmts))
          (cells_in l.frame l.initial.numbers) l.initial.cost.steps)
          ≡ seen l.cost.calls (run_stmts (scope_in l.frame) (stmts_of_list (map stmt_tree (drop l.i l.stmts)))
          (cells_in l.frame l.numbers) l.cost.steps);
    }
