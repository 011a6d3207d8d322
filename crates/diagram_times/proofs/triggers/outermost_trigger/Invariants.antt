use Rattle.std.proofs.Common.{◌≡◌}
use Rattle.diagram_meaning.specs.SampleTimes.{outermost_trigger}
use Rattle.diagram_times.proofs.Outward.{last_trigger}
use Rattle.diagram_times.proofs.triggers.outermost_trigger.Given as goal

abbrev pub invariant-outward : goal.invariant-outward
invariant-outward l = last_trigger l.rows l.found l.left l.outer ≡ outermost_trigger l.rows l.b

abbrev pub decreases-outward : goal.decreases-outward
decreases-outward l = l.left
