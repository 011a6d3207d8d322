-- Numbers of rows that fall along needs, or stay as they are at no row below a floor.
use Rattle.std.specs.Prelude.{ℕ, Bool, ◌||◌, ◌&&◌, ◌==◌, nat_lt, nat_le, List, slice_index_or}
use Rattle.std.specs.List.{list_all}
use Rattle.base_graph.specs.NeedsGraph.{NeedsGraph}

-- the number of a row, 0 where it has none
abbrev pub number_at : List ℕ → ℕ → ℕ
number_at numbers row = slice_index_or numbers row 0

-- what the second row of an edge needs, the first, has a lesser number, or the same where the
-- second is not below the floor
abbrev pub falls : List ℕ → ℕ → ℕ × ℕ → Bool
falls numbers floor edge =
    nat_lt (number_at numbers edge.0) (number_at numbers edge.1)
    || (number_at numbers edge.0 == number_at numbers edge.1 && nat_le floor edge.1)

-- that holds of each edge
abbrev pub all_fall : NeedsGraph → List ℕ → ℕ → Bool
all_fall g numbers floor = list_all (falls numbers floor) g.edges
