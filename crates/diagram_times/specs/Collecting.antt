-- The times that the inputs of rows give, by what was found.
use Rattle.std.specs.Prelude.{◌≡◌, ℕ, ◌<◌, List, length, slice_index_or, Option, unwrap_or}
use Rattle.diagram_meaning.specs.declared.table.Row.{Row}
use Rattle.diagram_meaning.specs.declared.times.Time.{Time}
use Rattle.diagram_meaning.specs.SampleTimes.{every_tick, search_inputs}
use Rattle.diagram_times.specs.Searching.{IsFound, Among}

-- the smallest time that includes those that were found at the inputs of row b, or every tick
abbrev pub IsCollected : List Row → List (Option Time) → ℕ → Time → Type 0
IsCollected rows found b time = (o : Option Time) × IsFound (Among found (search_inputs rows b)) o
    × (time ≡ unwrap_or o every_tick)

-- the same for the first n rows
pub record AreCollected (rows : List Row) (found : List (Option Time)) (n : ℕ)
    (inside : List Time) : Type 0 where
  pub len : length inside ≡ n
  pub each : (b : ℕ) → b < n → IsCollected rows found b (slice_index_or inside b every_tick)
