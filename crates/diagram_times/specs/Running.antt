-- The times at which rows run, and which of them are delays.
use Rattle.std.specs.Prelude.{◌≡◌, ℕ, ◌<◌, ◌↔◌, Bool, true, false, List, length, slice_index_or}
use Rattle.diagram_blocks.specs.declared.Kind.{Kind}
use Rattle.diagram_blocks.specs.declared.Kind.TheVariants.{RateTransition}
use Rattle.diagram_meaning.specs.declared.times.Time.{Time}
use Rattle.diagram_meaning.specs.RowTable.{RowTable}
use Rattle.diagram_meaning.specs.SampleTimes.{slower, every_tick, HasTime, Delays}

-- the time of a row that writes one: of a rate transition the slower of that of its input and the
-- written one
abbrev pub time_by_kind : Kind → Time → Time → Time
time_by_kind (RateTransition initial out) inside outside = slower inside outside
time_by_kind _ inside outside = outside

-- the sample times of the first n rows
pub record AreRunTimes (table : RowTable) (n : ℕ) (run : List Time) : Type 0 where
  pub len : length run ≡ n
  pub each : (b : ℕ) → b < n → HasTime table b (slice_index_or run b every_tick)

-- which of the first n rows are delays between rates
pub record AreDelays (table : RowTable) (n : ℕ) (marks : List Bool) : Type 0 where
  pub len : length marks ≡ n
  pub each : (b : ℕ) → b < n → (slice_index_or marks b false ≡ true) ↔ Delays table b
