-- A trace that comes in pieces: what a text means after some lines, and before whatever follows.
use Rattle.std.specs.Prelude.{◌≡◌, ℕ, ◌+◌, ◌-◌, ◌<◌, ◌≤◌, ℤ, List, [], ◌∷◌, ◌++◌, length, take, drop, None, Some, Bool, true, false}
use Rattle.std.specs.List.{AllZip}
use Rattle.std.specs.Str.Lines.{lines}
use Rattle.base_fixed_point.specs.declared.types.FixType.{FixType}
use Rattle.base_fixed_point.specs.Conversion.{InType}
use Rattle.tool_traces.specs.declared.rows.BadLine.{BadLine}
use Rattle.tool_traces.specs.Lines.{whole_lines}
use Rattle.tool_traces.specs.Rows.{Trace, rows_behind, most_lines}

-- the rows of a text after so many lines: those of its lines, and those of its whole lines
abbrev pub rows_after : ℕ → List FixType → List ℕ → Trace
rows_after count types text = rows_behind count types (lines text)

abbrev pub whole_rows_after : ℕ → List FixType → List ℕ → Trace
whole_rows_after count types text = rows_behind count types (whole_lines text)

-- rows in front of those of a trace
abbrev pub with_rows : List (List ℤ) → Trace → Trace
with_rows rows trace = record { rows = rows ++ trace.rows; bad = trace.bad }

-- the text is whole lines that write these rows, so that whatever follows is read as though it
-- began there
pub record WritesRows (text : List ℕ) (types : List FixType) (count : ℕ)
    (rows : List (List ℤ)) : Type 0 where
  pub all : (behind : List ℕ) →
      rows_after count types (text ++ behind)
      ≡ with_rows rows (rows_after (count + length rows) types behind)
  pub whole : (behind : List ℕ) →
      whole_rows_after count types (text ++ behind)
      ≡ with_rows rows (whole_rows_after (count + length rows) types behind)

-- the text begins with a line that is no row, whatever follows
abbrev pub BeginsBadly : BadLine → (text : List ℕ) (types : List FixType) (count : ℕ) → Type 0
BeginsBadly bad text types count = (behind : List ℕ) →
    rows_after count types (text ++ behind) ≡ record { rows = []; bad = Some bad }

-- a line with its end lies from a place on, and is this row
pub record IsNextRow (text : List ℕ) (types : List FixType) (count from after : ℕ)
    (row : List ℤ) : Type 0 where
  pub goes_on : from < after
  pub within : after ≤ length text
  pub fewer : count < most_lines
  pub in_types : AllZip InType types row
  pub writes : WritesRows (take (after - from) (drop from text)) types count (row ∷ [])

-- the text is no whole line, and may begin one that isn't too long
pub record BeginsLine (text : List ℕ) : Type 0 where
  pub no_whole : whole_lines text ≡ []
  pub short : length text ≤ 4097

-- the text is one line, which is this row
pub record IsLastRow (text : List ℕ) (types : List FixType) (count : ℕ)
    (row : List ℤ) : Type 0 where
  pub fewer : count < most_lines
  pub in_types : AllZip InType types row
  pub rows : rows_after count types text ≡ record { rows = row ∷ []; bad = None }

-- the text is a last line, which is this row, or there is none
abbrev pub EndsTrace : Bool → (text : List ℕ) (types : List FixType) (count : ℕ) (row : List ℤ) →
    Type 0
EndsTrace true text types count row = IsLastRow text types count row
EndsTrace false text types count row =
    rows_after count types text ≡ record { rows = []; bad = None }
