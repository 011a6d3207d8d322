-- The first field of a text, and the bound of a field's number.
use Rattle.std.proofs.Common.{◌≡◌, refl, sym, ◌∙◌, ap, subst, ℕ, suc, ◌+◌, ◌<◌, ◌≤◌, Bool, true, false, not, cond, List, [], ◌∷◌, length, take, drop, get_or, arith, le_trans, add-zero, ◌==◌}
use Rattle.std.specs.Prelude.{filter}
use Rattle.std.specs.List.{prefix_len, slice_split, onto_first}
use Rattle.std.specs.Str.Parse.{digits_value}
use Rattle.std.proofs.lemmas.Int.Digits.{digits_value-lt}
use Rattle.std.proofs.lemmas.List.Sums.{prefix_len_stops, prefix_len-le-length}
use Rattle.std.proofs.lemmas.List.{get_or-drop, length-take-le, length-drop}
use Rattle.base_core.specs.Bytes.{is_blank, drop_while}
use Rattle.base_numerals.specs.Literals.{is_numeral, are_digits}
use Rattle.base_numerals.proofs.lemmas.DigitLaws.{AllDigits-from_are_digits}
use Rattle.base_numerals.proofs.lemmas.NumberBounds.{powers}
use Rattle.tool_traces.specs.Fields.{fields}

abbrev pub is_some_text : List ℕ → Bool
is_some_text text = not (length text == 0)

-- how many bytes come before the first blank
abbrev pub plain_len : List ℕ → ℕ
plain_len text = prefix_len (λ c. not (is_blank c)) text

one_more : (n : ℕ) → 1 + n ≡ suc n
one_more n = omega arith

-- blanks in front part nothing
blanks_in_front : (text : List ℕ) → fields (drop_while is_blank text) ≡ fields text
blanks_in_front [] = refl
blanks_in_front (c ∷ cs) = by_test (blanks_in_front cs) (is_blank c) refl
  where
    by_test : fields (drop_while is_blank cs) ≡ fields cs → (t : Bool) → is_blank c ≡ t →
        fields (drop (cond t (1 + prefix_len is_blank cs) 0) (c ∷ cs)) ≡ fields (c ∷ cs)
    by_test more true e =
        ap (λ k. fields (drop k (c ∷ cs))) (one_more (prefix_len is_blank cs)) ∙ more
        ∙ ap (λ t. filter is_some_text (cond t ([] ∷ slice_split is_blank cs) (onto_first c (slice_split is_blank cs)))) (sym e)
    by_test more false e = refl

-- the parts after the first one, by the text from the first blank on
abbrev parts_behind : List ℕ → List (List ℕ)
parts_behind [] = []
parts_behind (c ∷ cs) = slice_split is_blank cs

first_part : (text : List ℕ) → slice_split is_blank text ≡ take (plain_len text) text ∷ parts_behind (drop (plain_len text) text)
first_part [] = refl
first_part (c ∷ cs) = by_test (first_part cs) (is_blank c)
  where
    by_test : slice_split is_blank cs ≡ take (plain_len cs) cs ∷ parts_behind (drop (plain_len cs) cs) → (t : Bool) →
        cond t ([] ∷ slice_split is_blank cs) (onto_first c (slice_split is_blank cs))
        ≡ take (cond (not t) (1 + plain_len cs) 0) (c ∷ cs) ∷ parts_behind (drop (cond (not t) (1 + plain_len cs) 0) (c ∷ cs))
    by_test more true = refl
    by_test more false =
        ap (onto_first c) more
        ∙ ap (λ k. take k (c ∷ cs) ∷ parts_behind (drop k (c ∷ cs))) (sym (one_more (plain_len cs)))

fields_behind : (text : List ℕ) → filter is_some_text (parts_behind (drop (plain_len text) text)) ≡ fields (drop (plain_len text) text)
fields_behind [] = refl
fields_behind (c ∷ cs) = by_test (fields_behind cs) (is_blank c) refl
  where
    by_test : filter is_some_text (parts_behind (drop (plain_len cs) cs)) ≡ fields (drop (plain_len cs) cs) → (t : Bool) → is_blank c ≡ t →
        filter is_some_text (parts_behind (drop (cond (not t) (1 + plain_len cs) 0) (c ∷ cs)))
        ≡ fields (drop (cond (not t) (1 + plain_len cs) 0) (c ∷ cs))
    by_test more true e =
        ap (λ t. filter is_some_text (cond t ([] ∷ slice_split is_blank cs) (onto_first c (slice_split is_blank cs)))) (sym e)
    by_test more false e =
        ap (λ k. filter is_some_text (parts_behind (drop k (c ∷ cs)))) (one_more (plain_len cs)) ∙ more
        ∙ ap (λ k. fields (drop k (c ∷ cs))) (sym (one_more (plain_len cs)))

some_test : (n : ℕ) → (suc n == 0) ≡ false
some_test n = grind arith

kept_part : (part : List ℕ) (parts : List (List ℕ)) → 0 < length part → filter is_some_text (part ∷ parts) ≡ part
    ∷ filter is_some_text parts
kept_part [] parts some = absurd (omega arith)
kept_part (c ∷ cs) parts some =
    ap (λ t. cond (not t) ((c ∷ cs) ∷ filter is_some_text parts) (filter is_some_text parts)) (some_test (length cs))

plain_some : (text : List ℕ) → 0 < length text → is_blank (get_or text 0 0) ≡ false → 0 < plain_len text
plain_some [] some plain = absurd (omega arith)
plain_some (c ∷ cs) some plain = subst (λ t. 0 < cond (not t) (1 + plain_len cs) 0) (sym plain) (omega arith)

first_plain : (text : List ℕ) → 0 < length text → is_blank (get_or text 0 0) ≡ false →
    fields text ≡ take (plain_len text) text ∷ fields (drop (plain_len text) text)
first_plain text some plain =
    let within = prefix_len-le-length (λ c. not (is_blank c)) text in
    let len : length (take (plain_len text) text) ≡ plain_len text = length-take-le (plain_len text) text within in
    let some_part : 0 < length (take (plain_len text) text) = omega (arith, len, plain_some text some plain) in
    ap (filter is_some_text) (first_part text)
    ∙ kept_part (take (plain_len text) text) (parts_behind (drop (plain_len text) text)) some_part
    ∙ ap (λ fs. take (plain_len text) text ∷ fs) (fields_behind text)

plain_front : (text : List ℕ) → 0 < length (drop_while is_blank text) → is_blank (get_or (drop_while is_blank text) 0 0) ≡ false
plain_front text some =
    let blanks = prefix_len is_blank text in
    let within : blanks < length text = omega (arith, length-drop blanks text) in
    ap is_blank (get_or-drop blanks text 0 0 ∙ ap (λ k. get_or text k 0) (add-zero blanks)) ∙ prefix_len_stops is_blank text 0 within

-- the first field is after the first blanks
pub first_field : (text rest : List ℕ) → rest ≡ drop_while is_blank text → 0 < length rest →
    fields text ≡ take (plain_len rest) rest ∷ fields (drop (plain_len rest) rest)
first_field text rest is some =
    let here : 0 < length (drop_while is_blank text) = subst (λ r. 0 < length r) is some in
    sym (blanks_in_front text) ∙ ap fields (sym is)
    ∙ first_plain rest some (subst (λ r. is_blank (get_or r 0 0) ≡ false) (sym is) (plain_front text here))

pub shorter_behind : (text rest : List ℕ) → rest ≡ drop_while is_blank text → 0 < length rest →
    length (drop (plain_len rest) rest) < length text
shorter_behind text rest is some =
    let here : 0 < length (drop_while is_blank text) = subst (λ r. 0 < length r) is some in
    let plain : is_blank (get_or rest 0 0) ≡ false = subst (λ r. is_blank (get_or r 0 0) ≡ false) (sym is) (plain_front text here) in
    let front = plain_some rest some plain in
    omega (arith, length-drop (plain_len rest) rest, length-drop (prefix_len is_blank text) text, ap length is)

-- blanks alone have no field
pub no_fields : (text rest : List ℕ) → rest ≡ drop_while is_blank text → length rest ≡ 0 → fields text ≡ []
no_fields text [] is none = sym (blanks_in_front text) ∙ ap fields (sym is)
no_fields text (c ∷ cs) is none = absurd (omega arith)

-- a number of at most 18 digits
pub short_number : (digits : List ℕ) → are_digits digits ≡ true → length digits ≤ 18 → digits_value 10 digits < 1_000_000_000_000_000_000
short_number digits all short =
    le_trans (digits_value-lt 10 digits (AllDigits-from_are_digits digits all)) (powers (length digits) short)

pub numeral_digits : (digits : List ℕ) → is_numeral digits ≡ true → are_digits digits ≡ true
numeral_digits digits e = grind arith
