-- The rows of a trace, one after another.
use Rattle.std.proofs.Common.{◌≡◌, sym, ◌∙◌, ap, ℕ, ◌+◌, ◌<◌, ◌≢◌, List, [], ◌∷◌, length, arith, ◌==◌}
use Rattle.std.specs.Prelude.{ℤ, Ok, Err, Some, if◌then◌else◌}
use Rattle.std.proofs.lemmas.Bool.{ne_eqb, lt-leb}
use Rattle.tool_traces.specs.declared.rows.BadWhy.{BadWhy}
use Rattle.tool_traces.specs.declared.rows.BadWhy.TheVariants.{Long, Many, Count}
use Rattle.tool_traces.specs.Lines.{longest}
use Rattle.tool_traces.specs.Fields.{fields}
use Rattle.tool_traces.specs.Rows.{with_row, most_lines}
use Rattle.tool_plain_rows.specs.PlainRows.{plain_rows_after, plain_row_of, plain_values_from}
use Rattle.tool_plain_rows.specs.Lines.{IsRow, IsNoRow}

long_row : (size : ℕ) (line : List ℕ) → 4096 < length line → plain_row_of size line ≡ Err Long
long_row size line long =
    ap (λ b. if b then (if length (fields line) == size then plain_values_from 1 (fields line)
    else Err (Count (length (fields line)))) else Err Long) (lt-leb (length line) longest long)

one_line : (count size : ℕ) (line : List ℕ) (behind : List (List ℕ)) → count ≢ most_lines →
    plain_rows_after count size (line ∷ behind) ≡ with_row (count + 1) (plain_row_of size line) (plain_rows_after (count + 1) size behind)
one_line count size line behind fewer =
    ap (λ b. if b then record { rows = []; bad = Some (record { line = most_lines; why = Many }) }
    else with_row (count + 1) (plain_row_of size line) (plain_rows_after (count + 1) size behind))
    (ne_eqb count most_lines fewer)

-- a line that is a row
pub row_next : (row : List ℤ) (line : List ℕ) (count size : ℕ) → count < most_lines → plain_row_of size line ≡ Ok row →
    IsRow row line count size
row_next row line count size fewer good = record {
  fewer = fewer;
  reads = λ behind.
      one_line count size line behind (omega (arith, fewer))
      ∙ ap (λ r. with_row (count + 1) r (plain_rows_after (count + 1) size behind)) good;
}

-- a line that is none
pub bad_next : (line : List ℕ) (count size : ℕ) (why : BadWhy) → count ≢ most_lines → plain_row_of size line ≡ Err why →
    IsNoRow (record { line = count + 1; why = why }) line count size
bad_next line count size why fewer bad = λ behind.
    one_line count size line behind fewer ∙ ap (λ r. with_row (count + 1) r (plain_rows_after (count + 1) size behind)) bad

pub long_next : (line : List ℕ) (count size : ℕ) → count ≢ most_lines → 4096 < length line →
    IsNoRow (record { line = count + 1; why = Long }) line count size
long_next line count size fewer long = bad_next line count size Long fewer (long_row size line long)

pub too_many : (line : List ℕ) (count size : ℕ) → count ≡ most_lines → IsNoRow (record { line = count; why = Many }) line count size
too_many line count size is = λ behind.
    ap (λ n. plain_rows_after n size (line ∷ behind)) is
    ∙ ap (λ n. record { rows = []; bad = Some (record { line = n; why = Many }) }) (sym is)
