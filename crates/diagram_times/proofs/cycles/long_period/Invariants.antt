use Rattle.std.proofs.Common.{◌≡◌, drop}
use Rattle.std.specs.Prelude.{find}
use Rattle.diagram_times.proofs.LineNumbers.{of_rows}
use Rattle.diagram_times.proofs.PeriodSteps.{periods_by, is_long}
use Rattle.diagram_times.proofs.cycles.long_period.Given as goal

abbrev pub invariant-loop-row : goal.invariant-loop-row
invariant-loop-row l =
    find is_long (of_rows (periods_by l.base) (drop l.row-index l.rows)) ≡ find is_long (of_rows (periods_by l.base) l.rows)
