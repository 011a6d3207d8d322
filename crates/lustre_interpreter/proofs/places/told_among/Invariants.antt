use Rattle.std.proofs.Common.{◌≡◌, map, drop}
use Rattle.std.specs.List.{flat_map}
use Rattle.lustre_syntax.specs.Plain.{equation_tree}
use Rattle.lustre_evaluation.specs.Views.{before_by}
use Rattle.lustre_interpreter.specs.Places.{soonest, telling}
use Rattle.lustre_interpreter.proofs.places.told_among.Given as goal

abbrev pub invariant-loop-equation : goal.invariant-loop-equation
invariant-loop-equation l =
    let told = telling l.fn.told (before_by l.view.begun l.view.before.now) l.view.values.now in
    soonest l.best (flat_map told (map equation_tree (drop l.equation-index l.equations)))
    ≡ soonest l.fn.best (flat_map told (map equation_tree l.equations))
