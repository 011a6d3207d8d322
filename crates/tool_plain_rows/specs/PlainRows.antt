-- The rows of a trace whose numbers have no types, but one range.
use Rattle.std.specs.Prelude.{ℕ, ◌+◌, ◌-◌, ◌^◌, ◌&&◌, List, [], ◌∷◌, length, Option, None, Some, Result, Ok, Err, ℤ, pos, neg_ℤ, int_le, nat_le, ◌==◌, if◌then◌else◌}
use Rattle.std.specs.Str.Lines.{lines}
use Rattle.tool_traces.specs.declared.rows.BadWhy.{BadWhy}
use Rattle.tool_traces.specs.declared.rows.BadWhy.TheVariants.{Long, Many, Count, Form, Range}
use Rattle.tool_traces.specs.Lines.{longest, whole_lines}
use Rattle.tool_traces.specs.Fields.{fields, field_number}
use Rattle.tool_traces.specs.Rows.{with_value, Trace, with_row, most_lines}

-- the value of the field with this number, by what it writes: it fits 32 bits, with or without a
-- sign
abbrev pub plain_value : ℕ → Option ℤ → Result ℤ BadWhy
plain_value field None = Err (Form field)
plain_value field (Some v) =
    if int_le (neg_ℤ (pos (2 ^ 31))) v && int_le v (pos (2 ^ 32 - 1)) then Ok v
    else Err (Range field)

-- the values of the fields from this number on, or the error of the first bad one
abbrev pub plain_values_from : ℕ → List (List ℕ) → Result (List ℤ) BadWhy
plain_values_from field [] = Ok []
plain_values_from field (text ∷ texts) =
    with_value (plain_value field (field_number text)) (plain_values_from (field + 1) texts)

-- the row of so many numbers that a line writes, or why it writes none
abbrev pub plain_row_of : ℕ → List ℕ → Result (List ℤ) BadWhy
plain_row_of count text =
    if nat_le (length text) longest
    then (if length (fields text) == count then plain_values_from 1 (fields text)
    else Err (Count (length (fields text))))
    else Err Long

-- the rows of the lines after so many others
abbrev pub plain_rows_after : ℕ → ℕ → List (List ℕ) → Trace
plain_rows_after line count [] = record { rows = []; bad = None }
plain_rows_after line count (text ∷ texts) =
    if line == most_lines
    then record { rows = []; bad = Some (record { line = most_lines; why = Many }) }
    else with_row (line + 1) (plain_row_of count text) (plain_rows_after (line + 1) count texts)

-- the rows of a trace's bytes
abbrev pub plain_rows_of : List ℕ → ℕ → Trace
plain_rows_of bytes count = plain_rows_after 0 count (lines bytes)

-- the rows of the whole lines among them
abbrev pub plain_whole_rows_of : List ℕ → ℕ → Trace
plain_whole_rows_of bytes count = plain_rows_after 0 count (whole_lines bytes)
