-- Decimal texts: digits and nothing but digits, whatever the number.
use Rattle.std.specs.Prelude.{◌≡◌, ℕ, zero, suc, ◌+◌, ◌/◌, ◌%◌, ◌<◌, ◌≤◌, nat_le, Bool, true, false, cond, ◌==◌, List, [], ◌∷◌, decimal}
use Rattle.std.specs.List.{list_all}
use Rattle.std.specs.Char.{is_ascii_digit}
use Rattle.std.specs.Fmt.{digits, digits_onto, digit_glyph}
use Rattle.std.proofs.Common.{refl, ◌∙◌, ap, arith}
use Rattle.std.proofs.lemmas.Bool.{le-leb, lt-ltb, leb-true, and_from, and_parts}

digit_is : (n : ℕ) → n < 10 → is_ascii_digit (48 + n) ≡ true
digit_is n h = and_from _ _ (le-leb 48 (48 + n) (omega arith)) (le-leb (48 + n) 57 (omega arith))

glyph_is : (n : ℕ) → n < 10 → is_ascii_digit (digit_glyph false n) ≡ true
glyph_is n h = ap (λ b. is_ascii_digit (cond b (48 + n) (87 + n))) (lt-ltb n 10 h) ∙ digit_is n h

-- the digits before others
onto_digits : (k n : ℕ) (later : List ℕ) → list_all is_ascii_digit later ≡ true →
    list_all is_ascii_digit (digits_onto k 10 false n later) ≡ true
onto_digits zero n later h = h
onto_digits (suc k) n later h =
    let first : list_all is_ascii_digit (digit_glyph false (n % 10) ∷ later) ≡ true = and_from _ _ (glyph_is (n % 10) (omega arith)) h in
    by (n / 10 == 0) first (onto_digits k (n / 10) (digit_glyph false (n % 10) ∷ later) first)
  where
    by : (b : Bool) → list_all is_ascii_digit (digit_glyph false (n % 10) ∷ later) ≡ true →
        list_all is_ascii_digit (digits_onto k 10 false (n / 10) (digit_glyph false (n % 10) ∷ later)) ≡ true →
        list_all is_ascii_digit (cond b (digit_glyph false (n % 10) ∷ later)
        (digits_onto k 10 false (n / 10) (digit_glyph false (n % 10) ∷ later))) ≡ true
    by true p q = p
    by false p q = q

pub decimal_digits : (n : ℕ) → list_all is_ascii_digit (decimal n) ≡ true
unfolding digits
decimal_digits n = onto_digits 64 n [] refl

pub digit_bounds : (c : ℕ) → is_ascii_digit c ≡ true → (48 ≤ c) × (c ≤ 57)
digit_bounds c h = let parts = and_parts (nat_le 48 c) (nat_le c 57) h in (leb-true 48 c parts.0, leb-true c 57 parts.1)
