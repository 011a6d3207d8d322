use Rattle.std.proofs.Common.{◌≡◌}
use Rattle.diagram_meaning.specs.RowTable.{RowTable}
use Rattle.diagram_meaning.specs.TimeRefusals.{AreInputTimes}
use Rattle.diagram_times.specs.Bases.{IsBaseOf}
use Rattle.diagram_times.specs.Running.{AreDelays}
use Rattle.diagram_times.proofs.run.delay_marks.Given as goal

abbrev pub invariant-loop-b : goal.invariant-loop-b
invariant-loop-b l = (table : RowTable) → table.rows ≡ l.rows → IsBaseOf table l.base → AreInputTimes table l.inside →
    AreDelays table l.b l.marks.items
