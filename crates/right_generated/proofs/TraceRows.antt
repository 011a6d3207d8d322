-- The lines of a generated trace, as rows of one number.
use Rattle.std.proofs.Common.{◌≡◌, refl, ◌∙◌, ap, ℕ, suc, ◌+◌, ◌-◌, ◌*◌, ◌%◌, ◌^◌, ◌<◌, ◌≤◌, Bool, true, false, not, cond, ◌&&◌, ◌||◌, List, [], ◌∷◌, length, ℤ, pos, negsuc, neg_ℤ, ◌-ℤ◌, arith, ◌==◌, ne_eqb, int_le, decimal, filter, if◌then◌else◌, slice_index, take, zero, None, Some, Ok, Err}
use Rattle.std.proofs.lemmas.Bool.{and_parts, and_from, le-leb}
use Rattle.std.proofs.lemmas.Int.{ints}
use Rattle.std.proofs.lemmas.Fmt.{decimal_is_IsNumeral, length-decimal-le, decimal_nonempty}
use Rattle.std.specs.Fmt.{signed_decimal}
use Rattle.std.specs.List.{list_all, slice_split, onto_first}
use Rattle.std.specs.Char.{is_ascii_digit}
use Rattle.std.specs.Str.Lines.{strip_carriage_return}
use Rattle.std.specs.Str.Parse.{digits_value}
use Rattle.base_core.specs.Bytes.{is_blank}
use Rattle.base_numerals.specs.Literals.{is_numeral, with_sign}
use Rattle.base_fixed_point.specs.declared.FixType.{FixType}
use Rattle.base_fixed_point.specs.Conversion.{least_of, greatest_of}
use Rattle.tool_traces.specs.declared.rows.BadWhy.TheVariants.{Long, Count, Range}
use Rattle.tool_traces.specs.Fields.{fields, field_number, digits_number}
use Rattle.tool_traces.specs.Rows.{row_of, values_from, with_value, checked_value, with_row, rows_of, rows_behind}
use Rattle.tool_generator.specs.Draws.{input_of, state_after}
use Rattle.tool_generator.specs.Models.{trace_text}
use Rattle.right_generated.proofs.DigitTexts.{decimal_digits, digit_bounds}
use Rattle.right_generated.proofs.OneLines.{IsOneLine, is_inside_line, lines_of_text}

-- ---- One field

abbrev is_solid : ℕ → Bool
is_solid c = not (is_blank c)

one_part : (text : List ℕ) → list_all is_solid text ≡ true → slice_split is_blank text ≡ text ∷ []
one_part [] h = refl
one_part (c ∷ cs) h = by (is_blank c) h (one_part cs)
  where
    by : (t : Bool) → (not t && list_all is_solid cs) ≡ true → (list_all is_solid cs ≡ true → slice_split is_blank cs ≡ cs ∷ []) →
        cond t ([] ∷ slice_split is_blank cs) (onto_first c (slice_split is_blank cs)) ≡ (c ∷ cs) ∷ []
    by true h more = cc
    by false h more = ap (onto_first c) (more h)

one_field : (text : List ℕ) → 0 < length text → list_all is_solid text ≡ true → fields text ≡ text ∷ []
one_field [] some h = absurd (omega (arith, some))
one_field (c ∷ cs) some h =
    ap (filter (λ field. not (length field == 0))) (one_part (c ∷ cs) h)
    ∙ ap (λ t. cond (not t) ((c ∷ cs) ∷ []) []) (ne_eqb (length (c ∷ cs)) 0 (λ e. omega (arith, e, some)))

digit_solid : (c : ℕ) → is_ascii_digit c ≡ true → is_solid c ≡ true
digit_solid c h =
    let low : 48 ≤ c = (digit_bounds c h).0 in
    by (c == 32) (c == 9) (ne_eqb c 32 (λ e. omega (arith, e, low))) (ne_eqb c 9 (λ e. omega (arith, e, low)))
  where
    by : (space tab : Bool) → space ≡ false → tab ≡ false → not (space || tab) ≡ true
    by true tab p q = cc
    by false true p q = cc
    by false false p q = refl

digits_solid : (text : List ℕ) → list_all is_ascii_digit text ≡ true → list_all is_solid text ≡ true
digits_solid [] h = refl
digits_solid (c ∷ cs) h = let parts = and_parts _ _ h in and_from _ _ (digit_solid c parts.0) (digits_solid cs parts.1)

-- ---- Its number

numeral : (text : List ℕ) → 0 < length text → list_all is_ascii_digit text ≡ true → is_numeral text ≡ true
numeral text some h = and_from _ _ (ap not (ne_eqb (length text) 0 (λ e. omega (arith, e, some)))) h

digits_read : (negative : Bool) (n : ℕ) → n < 1000 → digits_number negative (decimal n) ≡ Some (with_sign negative n)
digits_read negative n small =
    let short : length (decimal n) ≤ 3 = length-decimal-le 3 n (omega arith) (omega (arith, small)) (omega (arith, small)) in
    ap (λ t. if t then Some (with_sign negative (digits_value 10 (decimal n))) else None)
    (and_from _ _ (numeral (decimal n) (decimal_nonempty n (omega (arith, small))) (decimal_digits n))
    (le-leb (length (decimal n)) 18 (omega (arith, short))))
    ∙ ap (λ v. Some (with_sign negative v)) (decimal_is_IsNumeral n (omega (arith, small))).1

unsigned_field : (text : List ℕ) → 0 < length text → list_all is_ascii_digit text ≡ true → field_number text ≡ digits_number false text
unsigned_field [] some h = absurd (omega (arith, some))
unsigned_field (c ∷ cs) some h =
    let low : 48 ≤ c = (digit_bounds c (and_parts (is_ascii_digit c) (list_all is_ascii_digit cs) h).0).0 in
    ap (λ t. if t then digits_number true cs else digits_number false (c ∷ cs)) (ne_eqb c 45 (λ e. omega (arith, e, low)))

-- a number near 0
abbrev pub IsSmall : ℤ → Type 0
IsSmall (pos n) = n < 500
IsSmall (negsuc n) = n < 500

record IsField (text : List ℕ) (v : ℤ) : Type 0 where
  some : 0 < length text
  short : length text ≤ 4
  solid : list_all is_solid text ≡ true
  number : field_number text ≡ Some v

decimal_field : (n : ℕ) → n < 1000 → IsField (decimal n) (pos n)
decimal_field n small =
    let some : 0 < length (decimal n) = decimal_nonempty n (omega (arith, small)) in
    let short : length (decimal n) ≤ 3 = length-decimal-le 3 n (omega arith) (omega (arith, small)) (omega (arith, small)) in
    record {
      some = some;
      short = omega (arith, short);
      solid = digits_solid (decimal n) (decimal_digits n);
      number = unsigned_field (decimal n) some (decimal_digits n) ∙ digits_read false n small;
    }

negative_field : (n : ℕ) → n < 500 → IsField (45 ∷ decimal (suc n)) (negsuc n)
negative_field n small =
    let short : length (decimal (suc n)) ≤ 3 = length-decimal-le 3 (suc n) (omega arith) (omega (arith, small)) (omega (arith, small)) in
    record {
      some = omega arith;
      short = omega (arith, short);
      solid = digits_solid (decimal (suc n)) (decimal_digits (suc n));
      number = digits_read true (suc n) (omega (arith, small));
    }

signed_field : (v : ℤ) → IsSmall v → IsField (signed_decimal v) v
signed_field (pos n) small = decimal_field n (omega (arith, small))
signed_field (negsuc n) small = negative_field n small

-- ---- Its row

-- the type has a sign and 32 bits
pub record IsInt32 (t : FixType) : Type 0 where
  pub signed : t.signed ≡ true
  pub bits : t.bits ≡ 32

least : (t : FixType) → IsInt32 t → least_of t ≡ negsuc 2147483647
least t is = ap (λ s. if s then neg_ℤ (pos (2 ^ (t.bits - 1))) else pos 0) is.signed ∙ ap (λ b. neg_ℤ (pos (2 ^ (b - 1)))) is.bits

greatest : (t : FixType) → IsInt32 t → greatest_of t ≡ pos 2147483647
greatest t is = ap (λ s. if s then pos (2 ^ (t.bits - 1) - 1) else pos (2 ^ t.bits - 1)) is.signed ∙ ap (λ b. pos (2 ^ (b - 1) - 1)) is.bits

above_least : (v : ℤ) → IsSmall v → int_le (negsuc 2147483647) v ≡ true
above_least (pos n) small = refl
above_least (negsuc n) small = le-leb n 2147483647 (omega (arith, small))

below_greatest : (v : ℤ) → IsSmall v → int_le v (pos 2147483647) ≡ true
below_greatest (pos n) small = le-leb n 2147483647 (omega (arith, small))
below_greatest (negsuc n) small = refl

in_range : (t : FixType) (v : ℤ) → IsInt32 t → IsSmall v → (int_le (least_of t) v && int_le v (greatest_of t)) ≡ true
in_range t v is small =
    and_from _ _ (ap (λ low. int_le low v) (least t is) ∙ above_least v small) (ap (int_le v) (greatest t is) ∙ below_greatest v small)

small_row : (t : FixType) (v : ℤ) → IsInt32 t → IsSmall v → row_of (t ∷ []) (signed_decimal v) ≡ Ok (v ∷ [])
small_row t v is small =
    let text = signed_decimal v in
    let field = signed_field v small in
    ap (λ b. if b then (if length (fields text) == 1 then values_from 1 (t ∷ []) (fields text)
    else Err (Count (length (fields text)))) else Err Long)
    (le-leb (length text) 4096 (omega (arith, field.short)))
    ∙ ap (λ fs. if length fs == 1 then values_from 1 (t ∷ []) fs else Err (Count (length fs))) (one_field text field.some field.solid)
    ∙ ap (λ o. with_value (checked_value 1 t o) (Ok [])) field.number
    ∙ ap (λ b. with_value (if b then Ok v else Err (Range 1)) (Ok [])) (in_range t v is small)

-- ---- Drawn inputs

digits_inside : (text : List ℕ) → list_all is_ascii_digit text ≡ true → list_all is_inside_line text ≡ true
digits_inside [] h = refl
digits_inside (c ∷ cs) h =
    let parts = and_parts (is_ascii_digit c) (list_all is_ascii_digit cs) h in
    let low : 48 ≤ c = (digit_bounds c parts.0).0 in
    and_from _ _ (ap not (ne_eqb c 10 (λ e. omega (arith, e, low)))) (digits_inside cs parts.1)

below_500 : (m : ℕ) (v : ℤ) → m < 1000 → pos m -ℤ pos 500 ≡ v → IsSmall v
below_500 m (pos n) h e = omega (arith, ints, h, e)
below_500 m (negsuc n) h e = omega (arith, ints, h, e)

input_small : (drawn : ℕ) → IsSmall (input_of drawn)
input_small drawn = below_500 (drawn % 1000) (input_of drawn) (omega arith) refl

-- ---- The trace

signed_inside : (v : ℤ) → list_all is_inside_line (signed_decimal v) ≡ true
signed_inside (pos n) = digits_inside (decimal n) (decimal_digits n)
signed_inside (negsuc n) = digits_inside (decimal (suc n)) (decimal_digits (suc n))

-- a line that ends with no byte 13 keeps its last byte
kept_by : (text : List ℕ) → (slice_index text (length text - 1) == 13) ≡ false → strip_carriage_return text ≡ text
kept_by text e = ap (λ t. if t then take (length text - 1) text else text) e

digit_at : (text : List ℕ) (k : ℕ) → list_all is_ascii_digit text ≡ true → k < length text → 48 ≤ slice_index text k
digit_at [] k h less = absurd (omega (arith, less))
digit_at (c ∷ cs) zero h less = (digit_bounds c (and_parts (is_ascii_digit c) (list_all is_ascii_digit cs) h).0).0
digit_at (c ∷ cs) (suc k) h less = digit_at cs k (and_parts (is_ascii_digit c) (list_all is_ascii_digit cs) h).1 (omega (arith, less))

digits_kept : (text : List ℕ) → list_all is_ascii_digit text ≡ true → 0 < length text → (slice_index text (length text - 1) == 13) ≡ false
digits_kept text h some =
    ne_eqb (slice_index text (length text - 1)) 13
    (λ e. let low = digit_at text (length text - 1) h (omega (arith, some)) in omega (arith, e, low))

behind_sign : (text : List ℕ) → 0 < length text → slice_index (45 ∷ text) (length (45 ∷ text) - 1) ≡ slice_index text (length text - 1)
behind_sign text some = ap (slice_index (45 ∷ text)) {x = length (45 ∷ text) - 1} {y = suc (length text - 1)} (omega (arith, some))

signed_one : (v : ℤ) → IsSmall v → IsOneLine (signed_decimal v)
signed_one (pos n) small = record {
  inside = signed_inside (pos n);
  kept = kept_by (decimal n) (digits_kept (decimal n) (decimal_digits n) (decimal_nonempty n (omega (arith, small))));
}
signed_one (negsuc n) small =
    let text = decimal (suc n) in
    let some : 0 < length text = decimal_nonempty (suc n) (omega (arith, small)) in
    record {
      inside = signed_inside (negsuc n);
      kept = kept_by (45 ∷ text) (ap (λ c. c == 13) (behind_sign text some) ∙ digits_kept text (decimal_digits (suc n)) some);
    }

-- lines that are all rows
good_rows : (types : List FixType) (a b c d : List ℕ) (w x y z : List ℤ) →
    row_of types a ≡ Ok w → row_of types b ≡ Ok x → row_of types c ≡ Ok y → row_of types d ≡ Ok z →
    (rows_behind 0 types (a ∷ b ∷ c ∷ d ∷ [])).bad ≡ None
good_rows types a b c d w x y z p q r s =
    ap (λ o. (with_row 1 o (rows_behind 1 types (b ∷ c ∷ d ∷ []))).bad) p
    ∙ ap (λ o. (with_row 2 o (rows_behind 2 types (c ∷ d ∷ []))).bad) q
    ∙ ap (λ o. (with_row 3 o (rows_behind 3 types (d ∷ []))).bad) r
    ∙ ap (λ o. (with_row 4 o (rows_behind 4 types [])).bad) s

-- no line of a trace is bad where the only input is of int32
pub trace_rows : (start size : ℕ) (t : FixType) → IsInt32 t → (rows_of (trace_text start size) (t ∷ [])).bad ≡ None
trace_rows start size t is =
    let input : ℕ → ℤ = λ k. input_of (state_after start (3 * size + k)) in
    let small : (k : ℕ) → IsSmall (input k) = λ k. input_small (state_after start (3 * size + k)) in
    let row : (k : ℕ) → row_of (t ∷ []) (signed_decimal (input k)) ≡ Ok (input k ∷ []) = λ k. small_row t (input k) is (small k) in
    let texts = signed_decimal (input 1) ∷ signed_decimal (input 2) ∷ signed_decimal (input 3) ∷ signed_decimal (input 4) ∷ [] in
    let ones : (k : ℕ) → IsOneLine (signed_decimal (input k)) = λ k. signed_one (input k) (small k) in
    ap (λ ls. (rows_behind 0 (t ∷ []) ls).bad) (lines_of_text texts (ones 1, (ones 2, (ones 3, (ones 4, tt)))))
    ∙ good_rows (t ∷ []) (signed_decimal (input 1)) (signed_decimal (input 2))
    (signed_decimal (input 3)) (signed_decimal (input 4))
    (input 1 ∷ []) (input 2 ∷ []) (input 3 ∷ []) (input 4 ∷ []) (row 1) (row 2) (row 3) (row 4)
