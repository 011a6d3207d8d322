use Rattle.std.proofs.Common.{◌≡◌, ◌++◌, map, take, drop, ◌+◌, ◌*◌}
use Rattle.c_syntax.specs.Tree.{exprs_of_list}
use Rattle.c_syntax.specs.Limits.{cond_depth}
use Rattle.c_syntax.specs.Plain.{expr_tree, cond_tree}
use Rattle.c_semantics.specs.Values.{eval_all, and_then, gives}
use Rattle.c_interpreter.specs.Answers.{IsLater}
use Rattle.c_interpreter.specs.Reads.{view_reads, view_functions, AreNarrowExprs}
use Rattle.c_interpreter.proofs.Measures.{bodies, depth_in, depth_of}
use Rattle.c_interpreter.proofs.values.+expression.Given as goal

abbrev pub decreases-call_pure : goal.decreases-call_pure
decreases-call_pure l = bodies l.view.now.pures.now + 8 * depth_in l.values.now + 5

abbrev pub decreases-call_few : goal.decreases-call_few
decreases-call_few l = bodies l.view.now.pures.now + 8 * depth_in l.values.now + 4

abbrev pub decreases-call_many : goal.decreases-call_many
decreases-call_many l = bodies l.view.now.pures.now + 8 * depth_in l.values.now + 4

abbrev pub decreases-call_with : goal.decreases-call_with
decreases-call_with l = bodies l.view.now.pures.now + 8 * depth_in l.values.now + 3

abbrev pub decreases-eval : goal.decreases-eval
decreases-eval l = bodies l.view.now.pures.now + 8 * depth_of l.e.now + 1

abbrev pub decreases-eval_any : goal.decreases-eval_any
decreases-eval_any l = bodies l.view.now.pures.now + 8 * depth_of l.e.now

abbrev pub decreases-eval_all : goal.decreases-eval_all
decreases-eval_all l = bodies l.view.now.pures.now + 8 * depth_in l.values.now + 2

abbrev pub decreases-eval_cond : goal.decreases-eval_cond
decreases-eval_cond l = bodies l.view.now.pures.now + 8 * cond_depth (cond_tree l.test.now)

abbrev pub decreases-run_pure : goal.decreases-run_pure
decreases-run_pure l = bodies l.pures.now

abbrev pub decreases-run_body : goal.decreases-run_body
decreases-run_body l = bodies l.earlier.now + 8 * depth_of l.pure.now.body + 2

abbrev pub invariant-eval_all-loop-i : goal.invariant-eval_all-loop-i
invariant-eval_all-loop-i l =
    record {
      narrow : AreNarrowExprs (exprs_of_list (map expr_tree (drop l.i l.values)));
      later : IsLater l.initial.steps l.steps;
      value : eval_all (view_functions l.view) (view_reads l.view) l.view.line
          (exprs_of_list (map expr_tree l.values)) l.initial.steps
          ≡ and_then
          (eval_all (view_functions l.view) (view_reads l.view) l.view.line
          (exprs_of_list (map expr_tree (drop l.i l.values))) l.steps) (λ vs end. gives (take l.i l.out ++ vs) end);
    }
