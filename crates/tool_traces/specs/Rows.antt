-- The rows of a trace, up to the first line that is none.
use Rattle.std.specs.Prelude.{ℕ, ◌+◌, ◌&&◌, List, [], ◌∷◌, length, Option, None, Some, Result, Ok, Err, ℤ, int_le, nat_le, ◌==◌, if◌then◌else◌}
use Rattle.std.specs.Str.Lines.{lines}
use Rattle.base_fixed_point.specs.declared.types.FixType.{FixType}
use Rattle.base_fixed_point.specs.Conversion.{least_of, greatest_of}
use Rattle.tool_traces.specs.declared.rows.BadLine.{BadLine}
use Rattle.tool_traces.specs.declared.rows.BadWhy.{BadWhy}
use Rattle.tool_traces.specs.declared.rows.BadWhy.TheVariants.{Long, Many, Count, Form, Range}
use Rattle.tool_traces.specs.Lines.{longest, whole_lines}
use Rattle.tool_traces.specs.Fields.{fields, field_number}

-- the value of the field with this number, by what it writes: a number of the type
abbrev pub checked_value : ℕ → FixType → Option ℤ → Result ℤ BadWhy
checked_value field t None = Err (Form field)
checked_value field t (Some v) =
    if int_le (least_of t) v && int_le v (greatest_of t) then Ok v else Err (Range field)

-- a value in front of those after it; an error of the value comes first
abbrev pub with_value : Result ℤ BadWhy → Result (List ℤ) BadWhy → Result (List ℤ) BadWhy
with_value (Err why) values = Err why
with_value (Ok v) (Err why) = Err why
with_value (Ok v) (Ok values) = Ok (v ∷ values)

-- the values of the fields from this number on in their types, or the error of the first bad one
abbrev pub values_from : ℕ → List FixType → List (List ℕ) → Result (List ℤ) BadWhy
values_from field [] texts = Ok []
values_from field (t ∷ types) [] = Ok []
values_from field (t ∷ types) (text ∷ texts) =
    with_value (checked_value field t (field_number text)) (values_from (field + 1) types texts)

-- the row that a line writes, or why it writes none
abbrev pub row_of : List FixType → List ℕ → Result (List ℤ) BadWhy
row_of types text =
    if nat_le (length text) longest
    then (if length (fields text) == length types then values_from 1 types (fields text)
    else Err (Count (length (fields text))))
    else Err Long

-- The rows before the first bad line, and that line, if there is one.
pub record Trace : Type 0 where
  pub rows : List (List ℤ)
  pub bad : Option BadLine

-- a line's row in front of the rows of the lines after it
abbrev pub with_row : ℕ → Result (List ℤ) BadWhy → Trace → Trace
with_row line (Ok row) trace = record { rows = row ∷ trace.rows; bad = trace.bad }
with_row line (Err why) trace = record { rows = []; bad = Some (record { line = line; why = why }) }

-- how many lines a trace may have; one more is reported with this number
abbrev pub most_lines : ℕ
most_lines = 4294967295

-- the rows of the lines after so many others
abbrev pub rows_behind : ℕ → List FixType → List (List ℕ) → Trace
rows_behind line types [] = record { rows = []; bad = None }
rows_behind line types (text ∷ texts) =
    if line == most_lines
    then record { rows = []; bad = Some (record { line = most_lines; why = Many }) }
    else with_row (line + 1) (row_of types text) (rows_behind (line + 1) types texts)

-- the rows of a trace's bytes
abbrev pub rows_of : List ℕ → List FixType → Trace
rows_of bytes types = rows_behind 0 types (lines bytes)

-- the rows of the whole lines among them
abbrev pub whole_rows_of : List ℕ → List FixType → Trace
whole_rows_of bytes types = rows_behind 0 types (whole_lines bytes)
