-- The lines of a trace, one after another: what a line means after some others, and before whatever
-- follows.
use Rattle.std.specs.Prelude.{◌≡◌, ℕ, ◌+◌, ◌<◌, ℤ, List, [], ◌∷◌, Some}
use Rattle.tool_traces.specs.declared.rows.BadLine.{BadLine}
use Rattle.tool_traces.specs.Rows.{most_lines}
use Rattle.tool_traces.specs.Pieces.{with_rows}
use Rattle.tool_plain_rows.specs.PlainRows.{plain_rows_after}

-- after so many lines a line is this row of so many numbers, and the rows of the lines after it
-- follow
pub record IsRow (row : List ℤ) (line : List ℕ) (count size : ℕ) : Type 0 where
  pub fewer : count < most_lines
  pub reads : (behind : List (List ℕ)) → plain_rows_after count size (line ∷ behind)
      ≡ with_rows (row ∷ []) (plain_rows_after (count + 1) size behind)

-- after so many lines a line is no row of so many numbers, whatever follows
abbrev pub IsNoRow : BadLine → (line : List ℕ) (count size : ℕ) → Type 0
IsNoRow bad line count size = (behind : List (List ℕ)) →
    plain_rows_after count size (line ∷ behind) ≡ record { rows = []; bad = Some bad }
