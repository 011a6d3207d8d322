-- Rows whose written times are within the limits of one time.
use Rattle.std.specs.Prelude.{ℕ, ◌<◌, List, length, Option, ⊤}
use Rattle.base_core.specs.declared.Frac.{Frac}
use Rattle.base_core.specs.declared.TimeText.{TimeText}
use Rattle.base_core.specs.declared.TimeText.TheVariants.{Inherit, Constant, Each}
use Rattle.diagram_meaning.specs.WellFormed.{IsTime, IsStep}
use Rattle.diagram_meaning.specs.SampleTimes.{written_time}
use Rattle.diagram_meaning.specs.declared.table.Row.{Row}
use Rattle.diagram_times.specs.declared.base.BaseTick.{BaseTick}
use Rattle.diagram_times.specs.Bases.{IsCountable}

-- a text that writes a period above 0, and an offset below it
abbrev pub IsLawfulText : TimeText → Type 0
IsLawfulText Inherit = ⊤
IsLawfulText Constant = ⊤
IsLawfulText (Each period offset) = IsTime period offset

-- the times that rows write, and the written step, are lawful
pub record AreLawful (rows : List Row) (step : Option Frac) : Type 0 where
  pub texts : (b : ℕ) → b < length rows → IsLawfulText (written_time rows b)
  pub step_lawful : IsStep step

-- the ticks of the period that a text writes can be counted
abbrev pub IsPeriodCountable : BaseTick → TimeText → Type 0
IsPeriodCountable base Inherit = ⊤
IsPeriodCountable base Constant = ⊤
IsPeriodCountable base (Each period offset) = IsCountable base period

-- the ticks of all periods can be counted
abbrev pub ArePeriodsCountable : List Row → BaseTick → Type 0
ArePeriodsCountable rows base =
    (b : ℕ) → b < length rows → IsPeriodCountable base (written_time rows b)
