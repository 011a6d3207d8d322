use Rattle.std.proofs.Common.{◌≡◌}
use Rattle.diagram_meaning.specs.RowTable.{RowTable}
use Rattle.diagram_meaning.specs.TimeRefusals.{AreInputTimes}
use Rattle.diagram_times.specs.Bases.{IsBaseOf}
use Rattle.diagram_times.specs.Running.{AreRunTimes}
use Rattle.diagram_times.proofs.run.run_times.Given as goal

abbrev pub invariant-loop-b : goal.invariant-loop-b
invariant-loop-b l = (table : RowTable) → table.rows ≡ l.rows → IsBaseOf table l.base → AreInputTimes table l.inside →
    AreRunTimes table l.b l.run.items
