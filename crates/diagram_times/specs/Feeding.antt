-- The rows as a graph along which times spread.
use Rattle.std.specs.Prelude.{◌≡◌, ℕ, ◌<◌, List, [], length, Contains, ◌↔◌}
use Rattle.base_core.specs.declared.TimeText.{TimeText}
use Rattle.base_core.specs.declared.TimeText.TheVariants.{Inherit, Constant, Each}
use Rattle.base_graph.specs.NeedsGraph.{NeedsGraph, Needs}
use Rattle.diagram_meaning.specs.declared.table.Row.{Row}
use Rattle.diagram_meaning.specs.Rows.{row_at}
use Rattle.diagram_meaning.specs.SampleTimes.{search_time, search_inputs}

-- these rows where a time is inherited, and else none
abbrev pub where_inherited : TimeText → List ℕ → List ℕ
where_inherited Inherit inputs = inputs
where_inherited Constant inputs = []
where_inherited (Each period offset) inputs = []

-- the rows from which row b inherits its time in the search, none where it has one
abbrev pub fed_by : List Row → ℕ → List ℕ
fed_by rows b = where_inherited (search_time rows b) (search_inputs rows b)

-- an edge to each row below n from each row that feeds it, and no other
abbrev pub AreFeedsBelow : List Row → ℕ → List (ℕ × ℕ) → Type 0
AreFeedsBelow rows n edges =
    (b a : ℕ) → Contains edges (a, b) ↔ ((b < n) × Contains (fed_by rows b) a)

-- the rows, with an edge to each from each that feeds it
pub record IsFeeding (rows : List Row) (g : NeedsGraph) : Type 0 where
  pub size : g.n ≡ length rows
  pub edges : (b a : ℕ) → Needs g b a ↔ ((b < length rows) × Contains (fed_by rows b) a)

-- each input of a row is a row
abbrev pub AreInputsInside : List Row → Type 0
AreInputsInside rows = (b a : ℕ) → Contains (row_at rows b).inputs a → a < length rows
