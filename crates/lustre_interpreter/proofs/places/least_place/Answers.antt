use Rattle.std.proofs.Common.{arith}
use Rattle.lustre_syntax.specs.Plain.{file_tree}
use Rattle.lustre_slot_laws.specs.SlotLaws.{told_in}
use Rattle.lustre_evaluation.specs.Views.{before_by}
use Rattle.lustre_interpreter.specs.Places.{telling}
use Rattle.lustre_interpreter.proofs.Soonest.{gone_through}
use Rattle.lustre_interpreter.proofs.places.least_place.Goals as goal

pub returns : goal.returns
returns c =
    let frame = c.args.frame.now in
    gone_through (told_in (telling c.args.told) (file_tree frame.file.now) (before_by frame.begun frame.before.now) c.args.now.now)
    c.loop-of.best c.args.instances.now c.loop-of.of-index (omega arith) c.loop-of.invariant
