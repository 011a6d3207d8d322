-- Decimal texts: each has digits, and nothing but digits.
use Rattle.std.specs.Prelude.{◌≡◌, ℕ, zero, suc, ◌+◌, ◌/◌, ◌%◌, ◌<◌, Bool, true, false, cond, ◌&&◌, ◌==◌, List, [], ◌∷◌, ◌++◌, reverse, length, decimal}
use Rattle.std.specs.List.{list_all}
use Rattle.std.specs.Char.{is_ascii_digit}
use Rattle.std.specs.Fmt.{digits, digits_onto, digit_glyph}
use Rattle.std.proofs.Common.{refl, ◌∙◌, ap, arith}
use Rattle.std.proofs.lemmas.List.{reverse-append}
use Rattle.std.proofs.lemmas.Bool.{le-leb, lt-ltb, and_from, and_parts}

pub list_all-append : {A : Type 0} (t : A → Bool) (xs ys : List A) → list_all t (xs ++ ys) ≡ (list_all t xs && list_all t ys)
list_all-append t [] ys = refl
list_all-append t (x ∷ xs) ys = by (t x) (list_all-append t xs ys)
  where
    by : (b : Bool) → list_all t (xs ++ ys) ≡ (list_all t xs && list_all t ys) →
        (b && list_all t (xs ++ ys)) ≡ ((b && list_all t xs) && list_all t ys)
    by true e = e
    by false e = refl

pub all-both : {A : Type 0} (t : A → Bool) (xs ys : List A) → list_all t xs ≡ true → list_all t ys ≡ true → list_all t (xs ++ ys) ≡ true
all-both t xs ys p q = list_all-append t xs ys ∙ and_from _ _ p q

pub list_all-reverse : {A : Type 0} (t : A → Bool) (xs : List A) → list_all t xs ≡ true → list_all t (reverse xs) ≡ true
list_all-reverse t [] e = refl
list_all-reverse t (x ∷ xs) e =
    let parts = and_parts _ _ e in
    ap (list_all t) (reverse-append (x ∷ []) xs)
    ∙ all-both t (reverse xs) (x ∷ []) (list_all-reverse t xs parts.1) (and_from _ _ parts.0 refl)

digit-is : (n : ℕ) → n < 10 → is_ascii_digit (48 + n) ≡ true
digit-is n h = and_from _ _ (le-leb 48 (48 + n) (omega arith)) (le-leb (48 + n) 57 (omega arith))

glyph-is : (n : ℕ) → n < 10 → is_ascii_digit (digit_glyph false n) ≡ true
glyph-is n h = ap (λ b. is_ascii_digit (cond b (48 + n) (87 + n))) (lt-ltb n 10 h) ∙ digit-is n h

-- the digits before others
onto-digits : (k n : ℕ) (later : List ℕ) → list_all is_ascii_digit later ≡ true →
    list_all is_ascii_digit (digits_onto k 10 false n later) ≡ true
onto-digits zero n later h = h
onto-digits (suc k) n later h =
    let first : list_all is_ascii_digit (digit_glyph false (n % 10) ∷ later) ≡ true = and_from _ _ (glyph-is (n % 10) (omega arith)) h in
    by (n / 10 == 0) first (onto-digits k (n / 10) (digit_glyph false (n % 10) ∷ later) first)
  where
    by : (b : Bool) → list_all is_ascii_digit (digit_glyph false (n % 10) ∷ later) ≡ true →
        list_all is_ascii_digit (digits_onto k 10 false (n / 10) (digit_glyph false (n % 10) ∷ later)) ≡ true →
        list_all is_ascii_digit (cond b (digit_glyph false (n % 10) ∷ later)
        (digits_onto k 10 false (n / 10) (digit_glyph false (n % 10) ∷ later))) ≡ true
    by true p q = p
    by false p q = q

pub decimal-digits : (n : ℕ) → list_all is_ascii_digit (decimal n) ≡ true
unfolding digits
decimal-digits n = onto-digits 64 n [] refl

onto-some : (k n d : ℕ) (later : List ℕ) → 0 < length (digits_onto k 10 false n (d ∷ later))
onto-some zero n d later = omega arith
onto-some (suc k) n d later = by (n / 10 == 0) (onto-some k (n / 10) (digit_glyph false (n % 10)) (d ∷ later))
  where
    by : (b : Bool) → 0 < length (digits_onto k 10 false (n / 10) (digit_glyph false (n % 10) ∷ d ∷ later)) →
        0 < length (cond b (digit_glyph false (n % 10) ∷ d ∷ later)
        (digits_onto k 10 false (n / 10) (digit_glyph false (n % 10) ∷ d ∷ later)))
    by true h = omega arith
    by false h = h

first-some : (k n : ℕ) → 0 < length (digits_onto (suc k) 10 false n [])
first-some k n = by (n / 10 == 0) (onto-some k (n / 10) (digit_glyph false (n % 10)) [])
  where
    by : (b : Bool) → 0 < length (digits_onto k 10 false (n / 10) (digit_glyph false (n % 10) ∷ [])) →
        0 < length (cond b (digit_glyph false (n % 10) ∷ []) (digits_onto k 10 false (n / 10) (digit_glyph false (n % 10) ∷ [])))
    by true h = omega arith
    by false h = h

pub decimal-some : (n : ℕ) → 0 < length (decimal n)
unfolding digits
decimal-some n = first-some 63 n

-- a decimal by its first digit
pub decimal-cons : (n : ℕ) → (d : ℕ) × (ds : List ℕ) × (decimal n ≡ d ∷ ds) × (is_ascii_digit d ≡ true)
decimal-cons n = by (decimal n) refl (decimal-digits n) (decimal-some n)
  where
    by : (l : List ℕ) → decimal n ≡ l → list_all is_ascii_digit l ≡ true → 0 < length l →
        (d : ℕ) × (ds : List ℕ) × (decimal n ≡ d ∷ ds) × (is_ascii_digit d ≡ true)
    by [] e digits some = absurd (omega (arith, some))
    by (d ∷ ds) e digits some = (d, ds, e, (and_parts _ _ digits).0)
