-- The base tick of a table in memory, and the times that texts write by it.
use Rattle.std.specs.Prelude.{◌≡◌, ℕ, ◌/◌, ◌^◌, ◌<◌, ◌≤◌, List, length, Option, Some, None, ⊤}
use Rattle.base_core.specs.declared.Frac.{Frac}
use Rattle.base_core.specs.declared.TimeText.{TimeText}
use Rattle.base_core.specs.declared.TimeText.TheVariants.{Inherit, Constant, Each}
use Rattle.diagram_meaning.specs.declared.table.Row.{Row}
use Rattle.diagram_meaning.specs.declared.times.Time.{Time}
use Rattle.diagram_meaning.specs.RowTable.{RowTable}
use Rattle.diagram_meaning.specs.SampleTimes.{fractions, common_denominator, base_numerator, numerator_over, written_time, search_time}
use Rattle.diagram_times.specs.declared.base.BaseTick.{BaseTick}
use Rattle.diagram_times.specs.Searching.{found_at}

-- the base tick of a table, over the common denominator of its fractions
pub record IsBaseOf (table : RowTable) (base : BaseTick) : Type 0 where
  pub denominator : base.denominator ≡ common_denominator (fractions table)
  pub numerator : base.numerator ≡ base_numerator (fractions table)

-- how many base ticks a fraction is
abbrev pub ticks_of : BaseTick → Frac → ℕ
ticks_of base f = numerator_over base.denominator f / base.numerator

-- a fraction whose ticks can be counted
pub record IsCountable (base : BaseTick) (f : Frac) : Type 0 where
  pub some : 0 < base.numerator
  pub denominator : base.denominator ≤ 10 ^ 9
  pub low : f.num ≤ 10 ^ 9

-- a period of at most a million ticks, and an offset below it
pub record IsCounted (base : BaseTick) (period offset : Frac) : Type 0 where
  pub period_countable : IsCountable base period
  pub offset_countable : IsCountable base offset
  pub short : ticks_of base period ≤ 1_000_000
  pub below : ticks_of base offset < ticks_of base period

-- a period and an offset that a text writes can be counted
abbrev pub IsCountedText : BaseTick → TimeText → Type 0
IsCountedText base Inherit = ⊤
IsCountedText base Constant = ⊤
IsCountedText base (Each period offset) = IsCounted base period offset

-- the times that rows write can be counted
abbrev pub AreCounted : List Row → BaseTick → Type 0
AreCounted rows base = (b : ℕ) → b < length rows → IsCountedText base (written_time rows b)

-- the time that a text writes, none where it writes no period
abbrev pub IsTimeOf : BaseTick → TimeText → Option Time → Type 0
IsTimeOf base Inherit found = found ≡ None
IsTimeOf base Constant found = found ≡ None
IsTimeOf base (Each period offset) found =
    (time : Time) × (found ≡ Some time) × (time.period ≡ ticks_of base period)
    × (time.offset ≡ ticks_of base offset)

-- the times that rows give by themselves in the search
pub record AreGiven (rows : List Row) (base : BaseTick) (n : ℕ)
    (given : List (Option Time)) : Type 0 where
  pub len : length given ≡ n
  pub each : (b : ℕ) → b < n → IsTimeOf base (search_time rows b) (found_at given b)
