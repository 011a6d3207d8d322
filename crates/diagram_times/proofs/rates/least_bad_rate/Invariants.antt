use Rattle.std.proofs.Common.{◌≡◌, ◌-◌, ◌≤◌, length, get_or}
use Rattle.std.specs.Prelude.{flat_map}
use Rattle.std.specs.List.{range_with_len}
use Rattle.base_refusals.specs.FirstRefusal.{as_plain, least_line}
use Rattle.diagram_meaning.specs.RowTable.{RowTable}
use Rattle.diagram_meaning.specs.Rows.{row_at}
use Rattle.diagram_meaning.specs.SampleTimes.{every_tick}
use Rattle.diagram_meaning.specs.TimeRefusals.{rate_faults}
use Rattle.diagram_meaning.specs.TypeRefusals.{line_at}
use Rattle.diagram_times.specs.Bases.{IsBaseOf}
use Rattle.diagram_times.proofs.rates.least_bad_rate.Given as goal

abbrev pub invariant-back : goal.invariant-back
invariant-back l = record {
  below : l.b ≤ length l.rows;
  least : (table : RowTable) → table.rows ≡ l.rows → IsBaseOf table l.base →
      as_plain l.least
      ≡ least_line
      (flat_map (λ b. rate_faults table (line_at l.rows b) (get_or l.inside b every_tick) (row_at l.rows b).kind)
      (range_with_len l.b (length l.rows - l.b)));
}

abbrev pub decreases-back : goal.decreases-back
decreases-back l = l.b
