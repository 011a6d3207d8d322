-- The values of literals.
use Rattle.std.proofs.Common.{◌≡◌, refl, ◌∙◌, ap, ℕ, ◌+◌, ◌-◌, ◌*◌, ◌^◌, ◌<◌, ◌≤◌, min, Bool, true, false, not, ◌&&◌, ◌||◌, ◌==◌, nat_le, nat_lt, suc, List, [], ◌∷◌, codes, bytes_eq, arith}
use Rattle.std.specs.List.{list_all}
use Rattle.std.specs.Char.{is_ascii_digit, digit_value}
use Rattle.std.specs.Str.Parse.{digits_value_after, digits_value as number_of}
use Rattle.std.proofs.lemmas.Bool.{le-leb, leb-true, and_parts, and_from}
use Rattle.std.proofs.lemmas.Str.{digit_value_digit}
use Rattle.std.specs.Int.{IsInRange}
use Rattle.base_numerals.specs.Literals.{are_digits}
use Rattle.c_grammar.specs.Prefix.{is_literal, digits_value}
use Rattle.c_tokens.specs.Numerals.{is_plain_numeral}

digit-is : (d : ℕ) → is_ascii_digit d ≡ true → digit_value d ≡ d - 48
digit-is d e =
    let range : IsInRange 48 57 d = (
      leb-true 48 d (and_parts (nat_le 48 d) (nat_le d 57) e).0,
      leb-true d 57 (and_parts (nat_le 48 d) (nat_le d 57) e).1,
    ) in
    omega (arith, digit_value_digit d range)

pub values-agree : (n : ℕ) (ds : List ℕ) → list_all is_ascii_digit ds ≡ true → digits_value_after 10 n ds ≡ digits_value n ds
values-agree n [] e = refl
values-agree n (d ∷ ds) e =
    ap (λ m. digits_value_after 10 m ds) (omega (arith, digit-is d (and_parts (is_ascii_digit d) (list_all is_ascii_digit ds) e).0))
    ∙ values-agree (10 * n + (d - 48)) ds (and_parts (is_ascii_digit d) (list_all is_ascii_digit ds) e).1

pub plain-digits : (text : List ℕ) → is_plain_numeral text ≡ true → are_digits text ≡ true
plain-digits [] e = cc
plain-digits (d ∷ ds) e = (and_parts (list_all is_ascii_digit (d ∷ ds)) (bytes_eq (d ∷ ds) (codes "0") || not (d == 48)) e).0

value-is : (text : List ℕ) → is_plain_numeral text ≡ true → number_of 10 text ≡ digits_value 0 text
value-is text e = values-agree 0 text (plain-digits text e)

-- a numeral that fits 63 bits is a literal
pub fits-literal : (text : List ℕ) → is_plain_numeral text ≡ true → digits_value 0 text < 2 ^ 63 → is_literal text ≡ true
fits-literal [] e h = cc
fits-literal (d ∷ ds) e h =
    and_from (is_plain_numeral (d ∷ ds)) (nat_lt (digits_value 0 (d ∷ ds)) (2 ^ 63)) e (le-leb (suc (digits_value 0 (d ∷ ds))) (2 ^ 63) h)

-- and no other is
pub wide-no_literal : (text : List ℕ) → 2 ^ 63 ≤ digits_value 0 text → is_literal text ≡ false
wide-no_literal [] h = refl
wide-no_literal (d ∷ ds) h =
    by (list_all is_ascii_digit (d ∷ ds) && (bytes_eq (d ∷ ds) (codes "0") || not (d == 48)))
    (nat_lt (digits_value 0 (d ∷ ds)) (2 ^ 63)) refl
  where
    by : (a b : Bool) → nat_lt (digits_value 0 (d ∷ ds)) (2 ^ 63) ≡ b → (a && b) ≡ false
    by a true e = absurd (omega (arith, h, leb-true (suc (digits_value 0 (d ∷ ds))) (2 ^ 63) e))
    by true false e = refl
    by false false e = refl

pub capped : (text : List ℕ) (value : ℕ) → is_plain_numeral text ≡ true → value ≡ min (number_of 10 text) (2 ^ 63) →
    (value < 2 ^ 63 → digits_value 0 text ≡ value) × (value ≡ 2 ^ 63 → 2 ^ 63 ≤ digits_value 0 text)
capped text value e is = (λ h. omega (arith, value-is text e, is, h), λ h. omega (arith, value-is text e, is, h))
