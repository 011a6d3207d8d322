use Rattle.std.proofs.Common.{◌^◌, drop}
use Rattle.base_refusals.specs.declared.refusal.CycleWhat.TheVariants.{Hyper}
use Rattle.diagram_times.proofs.Growing.{IsGrowing}
use Rattle.diagram_times.proofs.LineNumbers.{of_rows}
use Rattle.diagram_times.proofs.PeriodSteps.{periods_by}
use Rattle.diagram_times.proofs.cycles.hyperperiod.Given as goal

abbrev pub invariant-loop-row : goal.invariant-loop-row
invariant-loop-row l =
    IsGrowing (2 ^ 30) Hyper 1 (of_rows (periods_by l.base) l.rows) l.cycle (of_rows (periods_by l.base) (drop l.row-index l.rows))
