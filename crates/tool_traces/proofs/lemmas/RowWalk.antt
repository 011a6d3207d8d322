-- The rows of a trace, one after another.
use Rattle.std.proofs.Common.{◌≡◌, refl, sym, ◌∙◌, ap, subst, ℕ, ◌+◌, ◌-◌, ◌<◌, ◌≤◌, ◌≢◌, Bool, true, false, List, [], ◌∷◌, length, take, drop, arith, ◌==◌}
use Rattle.std.specs.Prelude.{ℤ, Result, Ok, Err, Option, None, Some, nat_le, int_le, ◌&&◌, if◌then◌else◌}
use Rattle.std.specs.Int.Signed.{le_z_yes}
use Rattle.std.specs.List.{AllZip}
use Rattle.std.specs.Str.Lines.{lines}
use Rattle.std.proofs.lemmas.Bool.{eqb-true, ne_eqb, lt-leb}
use Rattle.std.proofs.lemmas.Float.{T_from_true}
use Rattle.base_fixed_point.specs.declared.types.FixType.{FixType}
use Rattle.base_fixed_point.specs.Conversion.{InType, least_of, greatest_of}
use Rattle.tool_traces.specs.declared.lines.Next.{Next}
use Rattle.tool_traces.specs.declared.lines.Next.TheVariants.{Line, More, Long as LongNext, End}
use Rattle.tool_traces.specs.declared.rows.BadWhy.{BadWhy}
use Rattle.tool_traces.specs.declared.rows.BadWhy.TheVariants.{Long, Many, Count, Range}
use Rattle.tool_traces.specs.Lines.{next_line_of, whole_lines, longest}
use Rattle.tool_traces.specs.Fields.{fields, field_number}
use Rattle.tool_traces.specs.Rows.{rows_behind, with_row, most_lines, row_of, values_from, with_value, checked_value}
use Rattle.tool_traces.specs.Pieces.{rows_after, with_rows, BeginsBadly, IsNextRow, IsLastRow}
use Rattle.tool_traces.proofs.lemmas.LineWalk.{shows, some_line, last_is}

-- ---- Values in their types

value_in : (number : ℕ) (t : FixType) (value : Option ℤ) (x : ℤ) → checked_value number t value ≡ Ok x → InType t x
value_in number t None x is = cc
value_in number t (Some v) x is = by_least (int_le (least_of t) v) (int_le v (greatest_of t)) refl refl is
  where
    by_least : (low high : Bool) → int_le (least_of t) v ≡ low → int_le v (greatest_of t) ≡ high →
        (if low && high then Ok v else Err (Range number)) ≡ Ok x → InType t x
    by_least true true low high is =
        let same : v ≡ x = cc in
        subst (InType t) same (le_z_yes (T_from_true _ low), le_z_yes (T_from_true _ high))
    by_least true false low high is = cc
    by_least false high_test low high is = cc

values_in : (number : ℕ) (types : List FixType) (texts : List (List ℕ)) (row : List ℤ) → length texts ≡ length types →
    values_from number types texts ≡ Ok row → AllZip InType types row
values_in number [] texts [] count is = tt
values_in number [] texts (x ∷ row) count is = cc
values_in number (t ∷ types) [] row count is = absurd (omega arith)
values_in number (t ∷ types) (text ∷ texts) row count is =
    by_parts (checked_value number t (field_number text)) (values_from (number + 1) types texts) row refl
    (λ values others. values_in (number + 1) types texts values (omega arith) others) is
  where
    by_parts : (v : Result ℤ BadWhy) (vs : Result (List ℤ) BadWhy) (row : List ℤ) → checked_value number t (field_number text) ≡ v →
        ((values : List ℤ) → vs ≡ Ok values → AllZip InType types values) → with_value v vs ≡ Ok row → AllZip InType (t ∷ types) row
    by_parts (Err why) vs row first others is = cc
    by_parts (Ok v) (Err why) row first others is = cc
    by_parts (Ok v) (Ok values) [] first others is = cc
    by_parts (Ok v) (Ok values) (x ∷ xs) first others is =
        let head : v ≡ x = cc in
        let tail : values ≡ xs = cc in
        (subst (InType t) head (value_in number t (field_number text) v first), subst (AllZip InType types) tail (others values refl))

pub row_in_types : (types : List FixType) (text : List ℕ) (row : List ℤ) → row_of types text ≡ Ok row → AllZip InType types row
row_in_types types text row is = by_tests (nat_le (length text) longest) (length (fields text) == length types) refl is
  where
    by_tests : (short same : Bool) → (length (fields text) == length types) ≡ same →
        (if short then (if same then values_from 1 types (fields text) else Err (Count (length (fields text))))
        else Err Long) ≡ Ok row → AllZip InType types row
    by_tests true true same is = values_in 1 types (fields text) row (eqb-true (length (fields text)) (length types) same) is
    by_tests true false same is = cc
    by_tests false count same is = cc

-- ---- One line

pub long_row : (types : List FixType) (text : List ℕ) → 4096 < length text → row_of types text ≡ Err Long
long_row types text long =
    ap (λ b. if b then (if length (fields text) == length types then values_from 1 types (fields text)
    else Err (Count (length (fields text)))) else Err Long) (lt-leb (length text) longest long)

pub one_line : (count : ℕ) (types : List FixType) (text : List ℕ) (behind : List (List ℕ)) → count ≢ most_lines →
    rows_behind count types (text ∷ behind) ≡ with_row (count + 1) (row_of types text) (rows_behind (count + 1) types behind)
one_line count types text behind fewer =
    ap (λ b. if b then record { rows = []; bad = Some (record { line = most_lines; why = Many }) }
    else with_row (count + 1) (row_of types text) (rows_behind (count + 1) types behind))
    (ne_eqb count most_lines fewer)

pub one_line_too_many : (count : ℕ) (types : List FixType) (text : List ℕ) (behind : List (List ℕ)) → count ≡ most_lines →
    rows_behind count types (text ∷ behind) ≡ record { rows = []; bad = Some (record { line = count; why = Many }) }
one_line_too_many count types text behind is =
    ap (λ n. rows_behind n types (text ∷ behind)) is ∙ ap (λ n. record { rows = []; bad = Some (record { line = n; why = Many }) }) (sym is)

-- a line that is a row, in front of others
good_line : (count : ℕ) (types : List FixType) (text : List ℕ) (row : List ℤ) (behind : List (List ℕ)) →
    count < most_lines → row_of types text ≡ Ok row →
    rows_behind count types (text ∷ behind) ≡ with_rows (row ∷ []) (rows_behind (count + 1) types behind)
good_line count types text row behind fewer good =
    one_line count types text behind (omega arith) ∙ ap (λ r. with_row (count + 1) r (rows_behind (count + 1) types behind)) good

-- a line that is none
pub bad_line : (count : ℕ) (types : List FixType) (text : List ℕ) (why : BadWhy) (behind : List (List ℕ)) →
    count ≢ most_lines → row_of types text ≡ Err why →
    rows_behind count types (text ∷ behind) ≡ record { rows = []; bad = Some (record { line = count + 1; why = why }) }
bad_line count types text why behind fewer bad =
    one_line count types text behind fewer ∙ ap (λ r. with_row (count + 1) r (rows_behind (count + 1) types behind)) bad

-- ---- The next row

pub line_places : (bytes : List ℕ) (from start end after : ℕ) → Line start end after ≡ next_line_of bytes from false →
    (start ≤ end) × (end ≤ length bytes)
line_places bytes from start end after is = let line = shows bytes from (Line start end after) is in (line.ordered, line.inside)

pub long_next : (bytes : List ℕ) (types : List FixType) (count from : ℕ) → LongNext ≡ next_line_of bytes from false → count ≢ most_lines →
    BeginsBadly (record { line = count + 1; why = Long }) (drop from bytes) types count
long_next bytes types count from is fewer = λ behind.
    let first = shows bytes from LongNext is behind in
    ap (rows_behind count types) first.is ∙ bad_line count types first.line Long first.behind fewer (long_row types first.line first.has)

pub row_next : (bytes : List ℕ) (types : List FixType) (count from start end after : ℕ) (row : List ℤ) →
    Line start end after ≡ next_line_of bytes from false → count < most_lines →
    row_of types (take (end - start) (drop start bytes)) ≡ Ok row → IsNextRow bytes types count from after row
row_next bytes types count from start end after row is fewer good =
    let text = take (end - start) (drop start bytes) in
    let line = shows bytes from (Line start end after) is in
    record {
      goes_on = line.goes_on;
      within = line.within;
      fewer = fewer;
      in_types = row_in_types types text row good;
      writes = record {
        all = λ behind. ap (rows_behind count types) (line.all behind) ∙ good_line count types text row (lines behind) fewer good;
        whole = λ behind. ap (rows_behind count types) (line.whole behind) ∙ good_line count types text row (whole_lines behind) fewer good;
      };
    }

pub bad_next : (bytes : List ℕ) (types : List FixType) (count from start end after : ℕ) (why : BadWhy) →
    Line start end after ≡ next_line_of bytes from false → count ≢ most_lines →
    row_of types (take (end - start) (drop start bytes)) ≡ Err why →
    BeginsBadly (record { line = count + 1; why = why }) (drop from bytes) types count
bad_next bytes types count from start end after why is fewer bad = λ behind.
    let first = (shows bytes from (Line start end after) is).first behind in
    ap (rows_behind count types) first.is ∙ bad_line count types first.line why first.behind fewer (ap (row_of types) first.has ∙ bad)

pub too_many : (bytes : List ℕ) (types : List FixType) (count from : ℕ) (next : Next) →
    next ≡ next_line_of bytes from false → next ≢ End → next ≢ More → count ≡ most_lines →
    BeginsBadly (record { line = count; why = Many }) (drop from bytes) types count
too_many bytes types count from next is some unended full = λ behind.
    let first = some_line bytes from next is some unended behind in
    ap (rows_behind count types) first.is ∙ one_line_too_many count types first.line first.behind full

-- ---- The last row

pub empty_last : (text : List ℕ) (types : List FixType) (count : ℕ) → length text ≡ 0 →
    rows_after count types text ≡ record { rows = []; bad = None }
empty_last [] types count none = refl
empty_last (c ∷ cs) types count none = absurd (omega arith)

pub row_last : (text : List ℕ) (types : List FixType) (count : ℕ) (row : List ℤ) → whole_lines text ≡ [] →
    length text ≢ 0 → count < most_lines → row_of types text ≡ Ok row →
    IsLastRow text types count row
row_last text types count row none some fewer good = record {
  fewer = fewer;
  in_types = row_in_types types text row good;
  rows = ap (rows_behind count types) (last_is text none some) ∙ good_line count types text row [] fewer good;
}

pub bad_last : (text : List ℕ) (types : List FixType) (count : ℕ) (why : BadWhy) → whole_lines text ≡ [] →
    length text ≢ 0 → count ≢ most_lines → row_of types text ≡ Err why →
    rows_after count types text ≡ record { rows = []; bad = Some (record { line = count + 1; why = why }) }
bad_last text types count why none some fewer bad =
    ap (rows_behind count types) (last_is text none some) ∙ bad_line count types text why [] fewer bad

pub too_many_last : (text : List ℕ) (types : List FixType) (count : ℕ) → whole_lines text ≡ [] → length text ≢ 0 → count ≡ most_lines →
    rows_after count types text ≡ record { rows = []; bad = Some (record { line = count; why = Many }) }
too_many_last text types count none some full =
    ap (rows_behind count types) (last_is text none some) ∙ one_line_too_many count types text [] full
