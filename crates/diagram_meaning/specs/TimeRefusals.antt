-- What is wrong with the sample times of a table: one written inside a subsystem with a trigger, a
-- cycle that is too long, a rate transition between rates without a whole ratio.
use Rattle.std.specs.Prelude.{◌≡◌, ℕ, ◌%◌, ◌<◌, Bool, true, false, ◌&&◌, ◌||◌, ◌==◌, nat_lt, if◌then◌else◌, List, [], ◌∷◌, map, filter, flat_map, find, length, slice_index_or, Option, Some, None, is_some, option_map, MatchOption}
use Rattle.std.specs.Option.{option_map_or}
use Rattle.base_refusals.specs.declared.CycleWhat.TheVariants.{Denominator, Period, Hyper}
use Rattle.base_core.specs.declared.Frac.{Frac}
use Rattle.base_core.specs.declared.TimeText.{TimeText}
use Rattle.base_core.specs.declared.TimeText.TheVariants.{Inherit, Constant, Each}
use Rattle.base_core.specs.Numbers.{lcm}
use Rattle.base_refusals.specs.Refusals.{PlainRefusal, TimeInside, LongCycle, RateRatio}
use Rattle.diagram_blocks.specs.declared.Kind.{Kind}
use Rattle.diagram_blocks.specs.declared.Kind.TheVariants as block
use Rattle.diagram_meaning.specs.declared.table.Row.{Row}
use Rattle.diagram_meaning.specs.declared.times.Time.{Time}
use Rattle.diagram_meaning.specs.RowTable.{RowTable}
use Rattle.diagram_meaning.specs.Rows.{row_at, row_numbers}
use Rattle.diagram_meaning.specs.SampleTimes.{every_tick, written_time, fractions_in, periods_in, ticks, outermost_trigger, IsInputTime}
use Rattle.base_refusals.specs.FirstRefusal.{least_line, first_there}
use Rattle.diagram_meaning.specs.TypeRefusals.{line_at}

-- whether a text writes a period
abbrev pub is_each : TimeText → Bool
is_each Inherit = false
is_each Constant = false
is_each (Each period offset) = true

-- the rows inside subsystems with triggers that write a period
abbrev pub times_inside : List Row → List PlainRefusal
times_inside rows =
    map (λ b. TimeInside (line_at rows b))
    (filter (λ b. is_some (outermost_trigger rows b) && is_each (written_time rows b))
    (row_numbers rows))

-- ---- Cycles, which go through the rows in their order

-- a number of a row, with the row's line
pub record AtLine : Type 0 where
  pub line : ℕ
  pub number : ℕ

-- what a function of the written times gives, row by row
abbrev pub by_line : List Row → (TimeText → List ℕ) → List AtLine
by_line rows f =
    flat_map
    (λ b. map (λ n. record { line = line_at rows b; number = n }) (f (written_time rows b)))
    (row_numbers rows)

-- the first least common multiple that exceeds the limit, of the number so far and the first ones
-- of the list
abbrev pub first_over : (limit so_far : ℕ) → List AtLine → Option AtLine
first_over limit so_far [] = None
first_over limit so_far (next ∷ rest) =
    let multiple = lcm so_far next.number in
    if nat_lt limit multiple then Some (record { line = next.line; number = multiple })
    else first_over limit multiple rest

-- the denominators of the fractions that a text writes
abbrev pub denominators_in : TimeText → List ℕ
denominators_in text = map (λ (f : Frac). f.den) (fractions_in text)

-- the common denominator of the written step and of periods and offsets, row by row, exceeds a
-- thousand million
abbrev pub long_denominator : RowTable → Option PlainRefusal
long_denominator table =
    option_map (λ (over : AtLine). LongCycle over.line Denominator over.number)
    (first_over 1_000_000_000 (option_map_or (λ (step : Frac). step.den) table.fixed_step 1)
    (by_line table.rows denominators_in))

-- the first row whose period is above a million base ticks
abbrev pub long_period : RowTable → Option PlainRefusal
long_period table =
    option_map (λ (p : AtLine). LongCycle p.line Period p.number)
    (find (λ (p : AtLine). nat_lt 1_000_000 p.number) (by_line table.rows (periods_in table)))

-- the least common multiple of the periods, row by row, exceeds 2^30
abbrev pub long_cycle : RowTable → Option PlainRefusal
long_cycle table =
    option_map (λ (over : AtLine). LongCycle over.line Hyper over.number)
    (first_over 1_073_741_824 1 (by_line table.rows (periods_in table)))

-- the first refusal of a table for the times that it writes
abbrev pub written_time_refusal : RowTable → Option PlainRefusal
written_time_refusal table =
    first_there (least_line (times_inside table.rows) ∷ long_denominator table ∷ long_period table
    ∷ long_cycle table ∷ [])

-- ---- Rates

-- whether a rate transition may lead from one time to another: the same, or without offsets and
-- with one period a multiple of the other
abbrev pub are_related : Time → (period offset : ℕ) → Bool
are_related inside period offset =
    (inside.period == period && inside.offset == offset)
    || ((inside.offset == 0 && offset == 0)
    && (inside.period % period == 0 || period % inside.period == 0))

-- what is wrong with a rate transition at this line from one time to the written one
abbrev pub ratio_faults : RowTable → ℕ → Time → TimeText → List PlainRefusal
ratio_faults table line inside Inherit = []
ratio_faults table line inside Constant = []
ratio_faults table line inside (Each period offset) =
    if are_related inside (ticks table period) (ticks table offset) then []
    else RateRatio line inside.period (ticks table period) ∷ []

-- the same of a row of any kind
abbrev pub rate_faults : RowTable → ℕ → Time → Kind → List PlainRefusal
rate_faults table line inside (block.RateTransition initial out) =
    ratio_faults table line inside out
rate_faults table line inside _ = []

-- the rate transitions between unrelated times, where the inputs of the rows give these times
abbrev pub unrelated_rates : RowTable → List Time → List PlainRefusal
unrelated_rates table inside =
    flat_map (λ b. rate_faults table (line_at table.rows b) (slice_index_or inside b every_tick)
    (row_at table.rows b).kind)
    (row_numbers table.rows)

-- the first refusal of a table for its rates
abbrev pub rate_refusal : RowTable → List Time → Option PlainRefusal
rate_refusal table inside = least_line (unrelated_rates table inside)

-- the times that the inputs of the rows give
pub record AreInputTimes (table : RowTable) (inside : List Time) : Type 0 where
  pub one_each : length inside ≡ length table.rows
  pub are_input_times : (b : ℕ) → b < length table.rows →
      IsInputTime table b (slice_index_or inside b every_tick)

-- the first refusal of a table for its sample times, or none: first for those that it writes, and
-- then for its rates
abbrev pub HasTimeRefusal : RowTable → Option PlainRefusal → Type 0
HasTimeRefusal table found =
    MatchOption (written_time_refusal table)
    ((inside : List Time) × AreInputTimes table inside × (found ≡ rate_refusal table inside))
    (λ refusal. found ≡ Some refusal)
