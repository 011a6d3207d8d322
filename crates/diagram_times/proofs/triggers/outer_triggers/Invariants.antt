use Rattle.std.proofs.Common.{◌≡◌, map}
use Rattle.std.specs.List.{range_with_len}
use Rattle.diagram_meaning.specs.SampleTimes.{outermost_trigger}
use Rattle.diagram_times.proofs.triggers.outer_triggers.Given as goal

abbrev pub invariant-loop-b : goal.invariant-loop-b
invariant-loop-b l = l.triggers.items ≡ map (outermost_trigger l.rows) (range_with_len 0 l.b)
