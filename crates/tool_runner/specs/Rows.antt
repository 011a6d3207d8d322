-- The rows of a trace, one after another: what a line means after some others, and before whatever
-- follows.
use Rattle.std.specs.Prelude.{◌≡◌, ℕ, ◌+◌, ◌<◌, ℤ, List, [], ◌∷◌, Some}
use Rattle.std.specs.List.{AllZip}
use Rattle.base_fixed_point.specs.declared.types.FixType.{FixType}
use Rattle.base_fixed_point.specs.Conversion.{InType}
use Rattle.tool_traces.specs.declared.rows.BadLine.{BadLine}
use Rattle.tool_traces.specs.Rows.{rows_behind, most_lines}
use Rattle.tool_traces.specs.Pieces.{with_rows}

-- after so many lines a line is this row, and the rows of the lines after it follow
pub record IsRow (row : List ℤ) (line : List ℕ) (types : List FixType) (count : ℕ) : Type 0 where
  pub fewer : count < most_lines
  pub in_types : AllZip InType types row
  pub reads : (behind : List (List ℕ)) → rows_behind count types (line ∷ behind)
      ≡ with_rows (row ∷ []) (rows_behind (count + 1) types behind)

-- after so many lines a line is no row, whatever follows
abbrev pub IsNoRow : BadLine → (line : List ℕ) (types : List FixType) (count : ℕ) → Type 0
IsNoRow bad line types count = (behind : List (List ℕ)) →
    rows_behind count types (line ∷ behind) ≡ record { rows = []; bad = Some bad }
