-- The laws of types and sample times on which the other crates rest.
use Rattle.std.specs.Prelude.{◌≡◌, ℕ, ◌^◌, ◌%◌, ◌<◌, ◌≤◌, List, length, slice_index_or, Some, ◌↔◌}
use Rattle.std.specs.Int.{◌∣◌}
use Rattle.base_fixed_point.specs.declared.FixType.{FixType}
use Rattle.diagram_blocks.specs.declared.Op.{Op}
use Rattle.diagram_meaning.specs.declared.table.Row.{Row}
use Rattle.diagram_meaning.specs.declared.times.Time.{Time}
use Rattle.diagram_meaning.specs.RowTable.{RowTable}
use Rattle.diagram_meaning.specs.RowTimes.{RowTimes}
use Rattle.diagram_meaning.specs.Types.{HasType}
use Rattle.diagram_meaning.specs.SampleTimes.{every_tick, hit, HasTime, AreTimes}
use Rattle.diagram_meaning.specs.TypeRefusals.{type_of_row, bits_of_row}
use Rattle.diagram_meaning.specs.Diagram.{IsResolved}

-- following as many rules as there are rows finds the type that is met first
abbrev pub TypeIsFollowed : Type 0
TypeIsFollowed = (rows : List Row) (b : ℕ) (type : FixType) →
    HasType rows b type ↔ (type_of_row rows b ≡ Some type)

-- a row has at most one sample time
abbrev pub TimeIsOne : Type 0
TimeIsOne = (table : RowTable) (b : ℕ) (p q : Time) → HasTime table b p → HasTime table b q → p ≡ q

-- each row of a resolved table needs at most 62 bits
abbrev pub ResolvedRowsAreNarrow : Type 0
ResolvedRowsAreNarrow =
    (table : RowTable) (types : List FixType) (ops : List Op) (times : RowTimes) (b : ℕ) →
    IsResolved table types ops times → b < length table.rows → bits_of_row table.rows types b ≤ 62

-- all hits of a resolved table repeat after at most 2^30 ticks
abbrev pub ResolvedCyclesAreShort : Type 0
ResolvedCyclesAreShort =
    (table : RowTable) (types : List FixType) (ops : List Op) (times : RowTimes) →
    IsResolved table types ops times → times.hyper ≤ 2 ^ 30

-- the cycle has a tick
abbrev pub CyclesHaveTicks : Type 0
CyclesHaveTicks = (table : RowTable) (types : List FixType) (ops : List Op) (times : RowTimes) →
    IsResolved table types ops times → 0 < times.hyper

-- the period of each row divides the cycle
abbrev pub PeriodsDivideCycle : Type 0
PeriodsDivideCycle = (table : RowTable) (times : RowTimes) (b : ℕ) →
    AreTimes table times → b < length table.rows →
    (slice_index_or times.run b every_tick).period ∣ times.hyper

-- a row is hit at a tick exactly where it is at that tick's place in the cycle
abbrev pub HitsRepeat : Type 0
HitsRepeat = (table : RowTable) (times : RowTimes) (b t : ℕ) →
    AreTimes table times → b < length table.rows →
    hit (slice_index_or times.run b every_tick) (t % times.hyper)
    ≡ hit (slice_index_or times.run b every_tick) t
