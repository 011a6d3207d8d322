-- Sample times: the base tick, and for each row the ticks at which it runs.
use Rattle.std.specs.Prelude.{◌≡◌, ℕ, ◌*◌, ◌/◌, ◌%◌, ◌<◌, Bool, true, false, ◌==◌, if◌then◌else◌, nat_lt, List, [], ◌∷◌, ◌++◌, map, filter, fold, flat_map, length, slice_index_or, Contains, Option, Some, None, ◌↔◌}
use Rattle.std.specs.List.{last_or}
use Rattle.std.proofs.Common.{lit≤}
use Rattle.base_core.specs.declared.Frac.{Frac}
use Rattle.base_core.specs.declared.TimeText.{TimeText}
use Rattle.base_core.specs.declared.TimeText.TheVariants.{Inherit, Constant, Each}
use Rattle.diagram_blocks.specs.declared.Kind.{Kind}
use Rattle.diagram_blocks.specs.declared.Kind.TheVariants as block
use Rattle.diagram_meaning.specs.declared.table.Row.{Row}
use Rattle.diagram_meaning.specs.declared.times.Time.{Time}
use Rattle.diagram_meaning.specs.RowTable.{RowTable}
use Rattle.diagram_meaning.specs.RowTimes.{RowTimes}
use Rattle.base_core.specs.Numbers.{gcd, lcm}
use Rattle.diagram_meaning.specs.Rows.{row_at, control_at, is_triggered, trigger_wire, around}

-- whether tick t is one of the ticks of a sample time
abbrev pub hit : Time → ℕ → Bool
hit time t = (t % time.period) == time.offset

-- the sample time that each tick is one of
abbrev pub every_tick : Time
every_tick = record { period = 1; offset = 0; in_period = lit≤ tt }

-- the time that a row writes: of a rate transition that of its output, and a ground is constant
abbrev pub written_by : Kind → TimeText → TimeText
written_by (block.RateTransition initial out) text = out
written_by block.Ground text = Constant
written_by _ text = text

-- the time that row b writes
abbrev pub written_time : List Row → ℕ → TimeText
written_time rows b = written_by (row_at rows b).kind (row_at rows b).time_text

-- The base tick. All written fractions are brought to the least common denominator; the greatest
-- common divisor of their numerators is then the base tick.

-- the period of a written time, and its offset unless it is 0
abbrev pub fractions_in : TimeText → List Frac
fractions_in Inherit = []
fractions_in Constant = []
fractions_in (Each period offset) = period ∷ (if offset.num == 0 then [] else offset ∷ [])

-- the written step, if there is one
abbrev pub step_in : Option Frac → List Frac
step_in None = []
step_in (Some step) = step ∷ []

-- all fractions of a model
abbrev pub fractions : RowTable → List Frac
fractions table =
    step_in table.fixed_step
    ++ flat_map (λ row. fractions_in (written_by row.kind row.time_text)) table.rows

-- the least common multiple of all denominators
abbrev pub common_denominator : List Frac → ℕ
common_denominator fs = fold lcm 1 (map (λ f. f.den) fs)

-- a fraction's numerator over a denominator
abbrev pub numerator_over : ℕ → Frac → ℕ
numerator_over den f = f.num * (den / f.den)

-- the numerator of the base tick over the common denominator
abbrev pub base_numerator : List Frac → ℕ
base_numerator fs = fold gcd 0 (map (numerator_over (common_denominator fs)) fs)

-- how many base ticks a fraction of the model is; a model without fractions, of which none is
-- asked, has no base tick
abbrev pub ticks : RowTable → Frac → ℕ
ticks table f =
    let fs = fractions table in
    numerator_over (common_denominator fs) f / base_numerator fs

-- a text writes this time, in base ticks
abbrev pub Writes : RowTable → TimeText → Time → Type 0
Writes table Inherit time = ⊥
Writes table Constant time = ⊥
Writes table (Each period offset) time =
    (time.period ≡ ticks table period) × (time.offset ≡ ticks table offset)

-- all written periods, in base ticks
abbrev pub periods_in : RowTable → TimeText → List ℕ
periods_in table Inherit = []
periods_in table Constant = []
periods_in table (Each period offset) = ticks table period ∷ []

-- the cycle after which all hits repeat: the least common multiple of all written periods
abbrev pub hyperperiod : RowTable → ℕ
hyperperiod table =
    fold lcm 1 (flat_map (λ row. periods_in table (written_by row.kind row.time_text)) table.rows)

-- The search. A row inside a subsystem with a trigger gives what the trigger of the outermost such
-- subsystem gives; what an enable beside it gives counts for nothing there.

-- the outermost subsystem with a trigger around row b
abbrev pub outermost_trigger : List Row → ℕ → Option ℕ
outermost_trigger rows b =
    last_or None (filter (λ e. is_triggered (control_at rows e)) (around rows None b))

-- the time that a row gives to those that it feeds, by the outermost subsystem with a trigger
-- around it
abbrev pub search_time_in : Option ℕ → TimeText → TimeText
search_time_in None text = text
search_time_in (Some e) text = Inherit

-- the time that row b gives to the rows that it feeds
abbrev pub search_time : List Row → ℕ → TimeText
search_time rows b = search_time_in (outermost_trigger rows b) (written_time rows b)

-- the wire that is there, in a list
abbrev pub wire_in : Option ℕ → List ℕ
wire_in None = []
wire_in (Some c) = c ∷ []

-- where the search goes on from a row with these inputs, by the outermost subsystem with a trigger
-- around it
abbrev pub search_inputs_in : List Row → Option ℕ → List ℕ → List ℕ
search_inputs_in rows None inputs = inputs
search_inputs_in rows (Some e) inputs = wire_in (trigger_wire rows e)

-- the rows at which the search goes on from row b
abbrev pub search_inputs : List Row → ℕ → List ℕ
search_inputs rows b = search_inputs_in rows (outermost_trigger rows b) (row_at rows b).inputs

-- the search that comes to row b finds this time: the written one, or through an inheriting row one
-- that its inputs give
pub data Finds (table : RowTable) : ℕ → Time → Type 0 where
  here : {b : ℕ} {time : Time} → Writes table (search_time table.rows b) time → Finds table b time
  through : {b c : ℕ} {time : Time} → search_time table.rows b ≡ Inherit →
      Contains (search_inputs table.rows b) c → Finds table c time → Finds table b time

-- the inputs of row b give this time
abbrev pub FindsBefore : RowTable → ℕ → Time → Type 0
FindsBefore table b time = (c : ℕ) × Contains (search_inputs table.rows b) c × Finds table c time

-- all ticks of the second time are ticks of the first
abbrev pub Includes : Time → Time → Type 0
Includes p q = (q.period % p.period ≡ 0) × (q.offset % p.period ≡ p.offset)

-- the smallest sample time that includes all times found
pub record IsSmallest (Found : Time → Type 0) (time : Time) : Type 0 where
  pub includes : (found : Time) → Found found → Includes time found
  pub smallest : (other : Time) → ((found : Time) → Found found → Includes other found) →
      Includes other time

-- the time that a search gives: every tick where it finds none
pub record IsInferred (Found : Time → Type 0) (time : Time) : Type 0 where
  pub none : ((found : Time) → Found found → ⊥) → time ≡ every_tick
  pub some : (found : Time) → Found found → IsSmallest Found time

-- the time that the inputs of row b give
abbrev pub IsInputTime : RowTable → ℕ → Time → Type 0
IsInputTime table b time = IsInferred (FindsBefore table b) time

-- the time of a rate transition: a delay runs with its input, a hold with its output
abbrev pub slower : Time → Time → Time
slower inside outside = if nat_lt outside.period inside.period then inside else outside

-- the time of a row outside subsystems with triggers, by its kind and written time
abbrev pub HasTimeBy : RowTable → ℕ → Kind → TimeText → Time → Type 0
HasTimeBy table b kind Inherit time = IsInputTime table b time
HasTimeBy table b kind Constant time = time ≡ every_tick
HasTimeBy table b (block.RateTransition initial out) (Each period offset) time =
    (inside outside : Time) × IsInputTime table b inside × Writes table (Each period offset) outside
    × (time ≡ slower inside outside)
HasTimeBy table b (block.Inport port) (Each period offset) time =
    Writes table (Each period offset) time
HasTimeBy table b (block.Outport port reset initial) (Each period offset) time =
    Writes table (Each period offset) time
HasTimeBy table b (block.SubSystem control) (Each period offset) time =
    Writes table (Each period offset) time
HasTimeBy table b (block.Constant value) (Each period offset) time =
    Writes table (Each period offset) time
HasTimeBy table b block.Ground (Each period offset) time = Writes table (Each period offset) time
HasTimeBy table b block.Terminator (Each period offset) time =
    Writes table (Each period offset) time
HasTimeBy table b (block.Gain gain how) (Each period offset) time =
    Writes table (Each period offset) time
HasTimeBy table b (block.Sum count minus how) (Each period offset) time =
    Writes table (Each period offset) time
HasTimeBy table b (block.Product count how) (Each period offset) time =
    Writes table (Each period offset) time
HasTimeBy table b (block.UnitDelay initial) (Each period offset) time =
    Writes table (Each period offset) time
HasTimeBy table b (block.Delay length initial) (Each period offset) time =
    Writes table (Each period offset) time
HasTimeBy table b block.ZeroOrderHold (Each period offset) time =
    Writes table (Each period offset) time
HasTimeBy table b (block.Switch criterion threshold how) (Each period offset) time =
    Writes table (Each period offset) time
HasTimeBy table b (block.Relational compare) (Each period offset) time =
    Writes table (Each period offset) time
HasTimeBy table b (block.Logic op count) (Each period offset) time =
    Writes table (Each period offset) time
HasTimeBy table b (block.Convert how) (Each period offset) time =
    Writes table (Each period offset) time
HasTimeBy table b block.EnablePort (Each period offset) time =
    Writes table (Each period offset) time
HasTimeBy table b block.TriggerPort (Each period offset) time =
    Writes table (Each period offset) time

-- the time of row b by the outermost subsystem with a trigger around it
abbrev pub HasTimeIn : RowTable → ℕ → Option ℕ → Time → Type 0
HasTimeIn table b None time =
    HasTimeBy table b (row_at table.rows b).kind (written_time table.rows b) time
HasTimeIn table b (Some e) time = time ≡ every_tick

-- the sample time of row b: every tick inside a subsystem with a trigger
abbrev pub HasTime : RowTable → ℕ → Time → Type 0
HasTime table b time = HasTimeIn table b (outermost_trigger table.rows b) time

-- row b is a rate transition from a slower to a faster rate, which delays
abbrev pub IsSlowToFast : RowTable → ℕ → Kind → Type 0
IsSlowToFast table b (block.RateTransition initial out) =
    (inside outside : Time) × IsInputTime table b inside × Writes table out outside
    × (outside.period < inside.period)
IsSlowToFast table b _ = ⊥

-- row b is a delay between rates: outside subsystems with triggers, and from slow to fast
abbrev pub Delays : RowTable → ℕ → Type 0
Delays table b =
    (outermost_trigger table.rows b ≡ None) × IsSlowToFast table b (row_at table.rows b).kind

-- the sample times of a table
pub record AreTimes (table : RowTable) (times : RowTimes) : Type 0 where
  pub run_length : length times.run ≡ length table.rows
  pub run : (b : ℕ) → b < length table.rows →
      HasTime table b (slice_index_or times.run b every_tick)
  pub delays_length : length times.delays ≡ length table.rows
  pub delays : (b : ℕ) → b < length table.rows →
      (slice_index_or times.delays b false ≡ true) ↔ Delays table b
  pub hyper : times.hyper ≡ hyperperiod table
