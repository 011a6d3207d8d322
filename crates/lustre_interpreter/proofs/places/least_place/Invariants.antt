use Rattle.std.proofs.Common.{◌≡◌, drop, None}
use Rattle.std.specs.List.{flat_map}
use Rattle.lustre_syntax.specs.Plain.{file_tree}
use Rattle.lustre_slot_laws.specs.SlotLaws.{told_in}
use Rattle.lustre_evaluation.specs.Views.{before_by}
use Rattle.lustre_interpreter.specs.Places.{soonest, telling}
use Rattle.lustre_interpreter.proofs.places.least_place.Given as goal

abbrev pub invariant-loop-of : goal.invariant-loop-of
invariant-loop-of l =
    let told = told_in (telling l.fn.told) (file_tree l.frame.file.now) (before_by l.frame.begun l.frame.before.now) l.now in
    soonest l.best (flat_map told (drop l.of-index l.instances)) ≡ soonest None (flat_map told l.instances)
