-- How many samples the delays of a table remember together, row by row.
use Rattle.std.specs.Prelude.{◌≡◌, refl, ℕ, suc, ◌+◌, ◌<◌, ◌≤◌, nat_lt, true, false, List, [], ◌∷◌, ◌++◌, flat_map, drop, length, slice_index_or, Option, Some, None, option_map}
use Rattle.std.specs.List.{AllByRecursion, range_with_len}
use Rattle.std.proofs.Common.{sym, ◌∙◌, ap, ap₂, subst, cond, drop_of_length-le, arith}
use Rattle.std.proofs.lemmas.List.{at_drop_more}
use Rattle.std.proofs.lemmas.Bool.Decides.{nat_tests}
use Rattle.base_refusals.specs.Refusals.{PlainRefusal, LongDelays}
use Rattle.diagram_meaning.specs.declared.table.Row.{Row}
use Rattle.diagram_meaning.specs.Rows.{row_at}
use Rattle.diagram_meaning.specs.TimeRefusals.{AtLine}
use Rattle.diagram_meaning.specs.DelayRefusals.{length_at, lengths_by_line, first_sum_over, delay_refusal}
use Rattle.diagram_meaning.specs.WellFormed.{IsRow}
use Rattle.diagram_verdict.specs.DelaySums.{one_length}
use Rattle.diagram_verdict.proofs.lemmas.PlaceLists.{place-of}

-- the length of a row that is a delay of several samples
abbrev pub length_of_row : Row → List AtLine
length_of_row row = length_at row.place.line row.kind

-- what is made of the numbers of rows is made of the rows
flat-range : {X : Type 0} (f : Row → List X) (all rows : List Row) (k : ℕ) → ((i : ℕ) → row_at all (k + i) ≡ row_at rows i) →
    flat_map (λ b. f (row_at all b)) (range_with_len k (length rows)) ≡ flat_map f rows
flat-range f all [] k same = refl
flat-range f all (row ∷ rows) k same =
    ap₂ (λ (first : Row) rest. f first ++ rest) (ap (row_at all) (plus_zero k) ∙ same 0)
    (flat-range f all rows (k + 1) (λ i. ap (row_at all) (plus_one k i) ∙ same (suc i)))
  where
    plus_zero : (k : ℕ) → k ≡ k + 0
    plus_zero k = omega arith

    plus_one : (k i : ℕ) → k + 1 + i ≡ k + suc i
    plus_one k i = omega arith

-- the lengths by the numbers of rows are those of the rows
lengths-by_row : (rows : List Row) → lengths_by_line rows ≡ flat_map length_of_row rows
lengths-by_row rows = flat-range length_of_row rows rows 0 (λ i. ap (row_at rows) (zero_plus i))
  where
    zero_plus : (i : ℕ) → 0 + i ≡ i
    zero_plus i = omega arith

-- the refusal of a sum that is over the limit
abbrev pub as_refusal : Option AtLine → Option PlainRefusal
as_refusal over = option_map (λ (over : AtLine). LongDelays over.line over.number) over

-- the refusal of the rows from one place on, where those before it remember so many samples
abbrev pub refusal_from : (most so_far : ℕ) → List Row → Option PlainRefusal
refusal_from most so_far rows = as_refusal (first_sum_over most so_far (flat_map length_of_row rows))

pub delays-by_row : (rows : List Row) → refusal_from 1_000_000 0 rows ≡ delay_refusal rows
delays-by_row rows = ap (λ lengths. as_refusal (first_sum_over 1_000_000 0 lengths)) (sym (lengths-by_row rows))

-- one row more
row-more : (most so_far : ℕ) (rows : List Row) (i : ℕ) (row : Row) (n : Option ℕ) → i < length rows →
    row ≡ slice_index_or rows i row → one_length row.place.line n ≡ length_of_row row →
    refusal_from most so_far (drop i rows)
    ≡ as_refusal
    (first_sum_over most so_far (one_length row.place.line n ++ flat_map length_of_row (drop (i + 1) rows)))
row-more most so_far rows i row n below is own =
    at_drop_more (refusal_from most so_far) rows i row below ∙ ap (λ (r : Row). refusal_from most so_far (r ∷ drop (i + 1) rows)) (sym is)
    ∙ ap (λ lengths. as_refusal (first_sum_over most so_far (lengths ++ flat_map length_of_row (drop (i + 1) rows)))) (sym own)

not_over : (a b : ℕ) → b ≤ a → nat_lt a b ≡ false
not_over a b h = grind (arith, nat_tests)

is_over : (a b : ℕ) → a < b → nat_lt a b ≡ true
is_over a b h = grind (arith, nat_tests)

-- a row that remembers no samples
pub none-more : (most so_far : ℕ) (rows : List Row) (i : ℕ) (row : Row) → i < length rows →
    row ≡ slice_index_or rows i row → one_length row.place.line None ≡ length_of_row row →
    refusal_from most so_far (drop i rows) ≡ refusal_from most so_far (drop (i + 1) rows)
none-more most so_far rows i row below is own = row-more most so_far rows i row None below is own

-- a delay with which the sum is within the limit
pub sum-within : (most so_far : ℕ) (rows : List Row) (i : ℕ) (row : Row) (n : ℕ) → i < length rows →
    row ≡ slice_index_or rows i row → one_length row.place.line (Some n) ≡ length_of_row row →
    so_far + n ≤ most → refusal_from most so_far (drop i rows) ≡ refusal_from most (so_far + n) (drop (i + 1) rows)
sum-within most so_far rows i row n below is own within =
    row-more most so_far rows i row (Some n) below is own
    ∙ ap (λ t.
    as_refusal
    (cond t (Some (record { line = row.place.line; number = so_far + n }))
    (first_sum_over most (so_far + n) (flat_map length_of_row (drop (i + 1) rows)))))
    (not_over most (so_far + n) within)

-- one with which it is over the limit
pub sum-over : (most so_far : ℕ) (rows : List Row) (i : ℕ) (row : Row) (n : ℕ) → i < length rows →
    row ≡ slice_index_or rows i row → one_length row.place.line (Some n) ≡ length_of_row row →
    most < so_far + n → refusal_from most so_far (drop i rows) ≡ Some (LongDelays row.place.line (so_far + n))
sum-over most so_far rows i row n below is own over =
    row-more most so_far rows i row (Some n) below is own
    ∙ ap (λ t.
    as_refusal
    (cond t (Some (record { line = row.place.line; number = so_far + n }))
    (first_sum_over most (so_far + n) (flat_map length_of_row (drop (i + 1) rows)))))
    (is_over most (so_far + n) over)

-- no row is left
pub sum-end : (most so_far : ℕ) (rows : List Row) (i : ℕ) → length rows ≤ i → refusal_from most so_far (drop i rows) ≡ None
sum-end most so_far rows i past = ap (refusal_from most so_far) (drop_of_length-le rows past)

-- each of the rows is lawful
pub row-lawful : (rows : List Row) (i : ℕ) (row : Row) → AllByRecursion IsRow rows → i < length rows →
    row ≡ slice_index_or rows i row → IsRow row
row-lawful rows i row all below is = subst IsRow (sym is) (place-of IsRow rows row i all below)
