use Rattle.std.proofs.Common.{◌≡◌, ◌-◌, ◌≤◌, length}
use Rattle.std.specs.Prelude.{flat_map, is_some, ◌&&◌}
use Rattle.std.specs.List.{range_with_len}
use Rattle.base_refusals.specs.Refusals.{TimeInside}
use Rattle.base_refusals.specs.FirstRefusal.{as_plain, least_line}
use Rattle.diagram_meaning.specs.SampleTimes.{outermost_trigger, written_time}
use Rattle.diagram_meaning.specs.TimeRefusals.{is_each}
use Rattle.diagram_meaning.specs.TypeRefusals.{line_at}
use Rattle.diagram_times.proofs.BackSteps.{listed_where}
use Rattle.diagram_times.proofs.inside.least_time_inside.Given as goal

abbrev pub invariant-back : goal.invariant-back
invariant-back l = record {
  below : l.b ≤ length l.rows;
  least : as_plain l.least
      ≡ least_line
      (flat_map (listed_where (λ b. is_some (outermost_trigger l.rows b) && is_each (written_time l.rows b))
      (λ b. TimeInside (line_at l.rows b)))
      (range_with_len l.b (length l.rows - l.b)));
}

abbrev pub decreases-back : goal.decreases-back
decreases-back l = l.b
