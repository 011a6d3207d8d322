-- The sample times of a table, or why it is refused for them.
use Rattle.std.specs.Prelude.{None, Some, ⊤}
use Rattle.base_refusals.specs.Refusals.{plain_refusal}
use Rattle.diagram_meaning.specs.declared.BuildFault.{BuildFault}
use Rattle.diagram_meaning.specs.declared.BuildFault.TheVariants.{Refused, Memory}
use Rattle.diagram_meaning.specs.RowTable.{RowTable}
use Rattle.diagram_meaning.specs.RowTimes.{RowTimes}
use Rattle.diagram_meaning.specs.SampleTimes.{AreTimes}
use Rattle.diagram_meaning.specs.TimeRefusals.{HasTimeRefusal}

-- nothing is wrong with the sample times of the table, and these are they
pub record AreInferred (table : RowTable) (times : RowTimes) : Type 0 where
  pub accepted : HasTimeRefusal table None
  pub are_times : AreTimes table times

-- the table is refused for its sample times, and this is the first refusal; nothing is said
-- where memory runs out
abbrev pub IsTimeFault : RowTable → BuildFault → Type 0
IsTimeFault table (Refused refusal) = HasTimeRefusal table (Some (plain_refusal refusal))
IsTimeFault table Memory = ⊤
