use Rattle.std.proofs.Common.{◌≡◌, List, map, drop}
use Rattle.std.specs.List.{flat_map}
use Rattle.lustre_syntax.specs.Plain.{expr_tree}
use Rattle.lustre_syntax.specs.Tree.{ExprTree}
use Rattle.lustre_flows.specs.declared.stuck.LusStuck.{LusStuck}
use Rattle.lustre_flows.specs.Values.{evaluate}
use Rattle.lustre_flows.specs.Ticks.{failure}
use Rattle.lustre_evaluation.specs.Views.{before_by}
use Rattle.lustre_interpreter.specs.Places.{soonest}
use Rattle.lustre_interpreter.proofs.places.failures_among.Given as goal

abbrev pub invariant-loop-e : goal.invariant-loop-e
invariant-loop-e l =
    let told : ExprTree → List LusStuck =
    λ x. failure l.line (evaluate (before_by l.view.begun l.view.before.now) l.view.values.now x) in
    soonest l.best (flat_map told (map expr_tree (drop l.e-index l.expressions)))
    ≡ soonest l.fn.best (flat_map told (map expr_tree l.expressions))
