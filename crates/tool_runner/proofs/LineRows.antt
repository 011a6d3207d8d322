-- The rows of a trace, one after another.
use Rattle.std.proofs.Common.{◌∙◌, sym, ap, subst, ℕ, ◌+◌, ◌<◌, ◌≢◌, ◌≡◌, List, [], ◌∷◌, ◌++◌, length, take, drop, arith}
use Rattle.std.specs.Prelude.{ℤ, Ok, Err}
use Rattle.std.specs.List.{AllZip}
use Rattle.std.proofs.lemmas.List.{take-append-le}
use Rattle.std.proofs.Math.Seq.{take-length}
use Rattle.base_fixed_point.specs.declared.types.FixType.{FixType}
use Rattle.base_fixed_point.specs.Conversion.{InType}
use Rattle.tool_traces.specs.declared.rows.BadWhy.{BadWhy}
use Rattle.tool_traces.specs.declared.rows.BadWhy.TheVariants.{Long, Many}
use Rattle.tool_traces.specs.Rows.{rows_behind, with_row, most_lines, row_of}
use Rattle.tool_traces.proofs.lemmas.RowWalk.{row_in_types, one_line, one_line_too_many, bad_line, long_row}
use Rattle.tool_runner.specs.Rows.{IsRow, IsNoRow}
use Rattle.tool_runner.specs.Ticks.{IsNarrower}

-- a line that is a row
pub row_next : (row : List ℤ) (line : List ℕ) (types : List FixType) (count : ℕ) → count < most_lines → row_of types line ≡ Ok row →
    IsRow row line types count
row_next row line types count fewer good = record {
  fewer = fewer;
  in_types = row_in_types types line row good;
  reads = λ behind.
      one_line count types line behind (omega (arith, fewer))
      ∙ ap (λ r. with_row (count + 1) r (rows_behind (count + 1) types behind)) good;
}

-- a line that is none
pub bad_next : (line : List ℕ) (types : List FixType) (count : ℕ) (why : BadWhy) → count ≢ most_lines → row_of types line ≡ Err why →
    IsNoRow (record { line = count + 1; why = why }) line types count
bad_next line types count why fewer bad = λ behind. bad_line count types line why behind fewer bad

pub long_next : (line : List ℕ) (types : List FixType) (count : ℕ) → count ≢ most_lines → 4096 < length line →
    IsNoRow (record { line = count + 1; why = Long }) line types count
long_next line types count fewer long = bad_next line types count Long fewer (long_row types line long)

pub too_many : (line : List ℕ) (types : List FixType) (count : ℕ) → count ≡ most_lines →
    IsNoRow (record { line = count; why = Many }) line types count
too_many line types count full = λ behind. one_line_too_many count types line behind full

-- ---- Rows for the machine

-- a row whose numbers are in their types is one for the machine
row_fits : (types inputs : List FixType) (row : List ℤ) → AllZip IsNarrower types inputs → AllZip InType types row →
    AllZip InType inputs row
row_fits [] [] row narrow in_types = in_types
row_fits [] (u ∷ inputs) row narrow in_types = absurd narrow
row_fits (t ∷ types) [] row narrow in_types = absurd narrow
row_fits (t ∷ types) (u ∷ inputs) [] narrow in_types = absurd in_types
row_fits (t ∷ types) (u ∷ inputs) (x ∷ row) narrow in_types = (narrow.0 x in_types.0, row_fits types inputs row narrow.1 in_types.1)

-- a room that was written over as a whole
written_over : (numbers room : List ℤ) (size : ℕ) → length numbers ≡ size → take size (numbers ++ drop (length numbers) room) ≡ numbers
written_over numbers room size same =
    ap (λ n. take n (numbers ++ drop (length numbers) room)) (sym same)
    ∙ take-append-le (length numbers) numbers (drop (length numbers) room) (omega arith)
    ∙ take-length numbers

pub row_written : (types inputs : List FixType) (row room : List ℤ) (size : ℕ) → length row ≡ size → AllZip IsNarrower types inputs →
    AllZip InType types row → AllZip InType inputs (take size (row ++ drop (length row) room))
row_written types inputs row room size same narrow in_types =
    subst (AllZip InType inputs) (sym (written_over row room size same)) (row_fits types inputs row narrow in_types)
