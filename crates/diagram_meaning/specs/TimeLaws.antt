-- The laws of a table's sample times: there is one set of them, and one answer to what is wrong
-- with them.
use Rattle.std.specs.Prelude.{◌≡◌, ◌↔◌, ℕ, ◌<◌, List, length, Option, None, ⊤}
use Rattle.base_core.specs.declared.TimeText.{TimeText}
use Rattle.base_core.specs.declared.TimeText.TheVariants.{Inherit, Constant, Each}
use Rattle.base_refusals.specs.Refusals.{PlainRefusal}
use Rattle.diagram_meaning.specs.declared.times.Time.{Time}
use Rattle.diagram_meaning.specs.RowTable.{RowTable}
use Rattle.diagram_meaning.specs.RowTimes.{RowTimes}
use Rattle.diagram_meaning.specs.SampleTimes.{ticks, written_time, outermost_trigger, AreTimes}
use Rattle.diagram_meaning.specs.TimeRefusals.{AreInputTimes, HasTimeRefusal}
use Rattle.diagram_meaning.specs.WellFormed.{IsWellFormed}

-- a table has at most one set of sample times
abbrev pub TimesAreOne : Type 0
TimesAreOne = (table : RowTable) (times others : RowTimes) → AreTimes table times →
    AreTimes table others → times ≡ others

-- a written offset is below its period, in base ticks
abbrev pub IsBelow : RowTable → TimeText → Type 0
IsBelow table Inherit = ⊤
IsBelow table Constant = ⊤
IsBelow table (Each period offset) = ticks table offset < ticks table period

-- so is each that a row outside subsystems with triggers writes
abbrev pub OffsetsAreBelow : RowTable → Type 0
OffsetsAreBelow table = (b : ℕ) → b < length table.rows → outermost_trigger table.rows b ≡ None →
    IsBelow table (written_time table.rows b)

-- a table has sample times exactly where that is so
abbrev pub TimesAreThere : Type 0
TimesAreThere =
    (table : RowTable) → OffsetsAreBelow table ↔ ((times : RowTimes) × AreTimes table times)

-- each table that a model file can have has sample times
abbrev pub TablesHaveTimes : Type 0
TablesHaveTimes =
    (table : RowTable) → IsWellFormed table → (times : RowTimes) × AreTimes table times

-- the inputs of a table's rows give at most one list of times
abbrev pub InputTimesAreOne : Type 0
InputTimesAreOne = (table : RowTable) (inside others : List Time) → AreInputTimes table inside →
    AreInputTimes table others →
    inside ≡ others

-- and they give one in each table
abbrev pub InputTimesAreThere : Type 0
InputTimesAreThere = (table : RowTable) → (inside : List Time) × AreInputTimes table inside

-- of what is wrong with the times of a table there is at most one first
abbrev pub TimeRefusalIsOne : Type 0
TimeRefusalIsOne = (table : RowTable) (found other : Option PlainRefusal) →
    HasTimeRefusal table found → HasTimeRefusal table other →
    found ≡ other

-- and each table has one, or nothing wrong
abbrev pub TimeRefusalIsThere : Type 0
TimeRefusalIsThere = (table : RowTable) → (found : Option PlainRefusal) × HasTimeRefusal table found
