-- The value of a number's text is in lowest terms and has bounded parts.
use Rattle.std.proofs.Common.{◌≡◌, refl, sym, ◌∙◌, ap, subst, ℕ, zero, suc, ◌+◌, ◌*◌, ◌^◌, ◌<◌, ◌≤◌, Bool, true, false, cond, List, [], ◌∷◌, ◌++◌, length, ℤ, pos, negsuc, neg_ℤ, unsigned_abs, ◌==◌, arith, le_trans, div-le_self, drop, zero-le, ◌≢◌}
use Rattle.std.specs.List.{prefix_len}
use Rattle.std.specs.Char.{digit_value, is_ascii_digit}
use Rattle.std.proofs.lemmas.List.Folds.{list_all-append}
use Rattle.std.specs.Str.Parse.{digits_value, digits_value_after, AllDigits}
use Rattle.std.proofs.lemmas.Int.Digits.{digits_value-lt}
use Rattle.std.proofs.lemmas.Bool.{eqb-true}
use native.Mathlib.Nat.{pow-le-pow_right}
use Rattle.std.proofs.Math.Nat.{mul-le-mul_left, mul-le-mul_right}
use Rattle.base_core.specs.Bytes.{drop_while}
use Rattle.base_numerals.specs.Literals.{in_lowest_terms, significant_len, are_digits, is_numeral}
use Rattle.base_numerals.proofs.lemmas.DigitLaws.{AllDigits-from_are_digits, digits_value-pos, digits_value-append, le-digits_value_after}

-- zeros in front change nothing
zeros_in_front : (ds : List ℕ) → digits_value 10 (drop_while (λ c. c == 48) ds) ≡ digits_value 10 ds
zeros_in_front [] = refl
zeros_in_front (c ∷ cs) = by_test (zeros_in_front cs) (c == 48) refl
  where
    one_more : (n : ℕ) → 1 + n ≡ suc n
    one_more n = omega arith

    by_test : digits_value 10 (drop_while (λ b. b == 48) cs) ≡ digits_value 10 cs → (t : Bool) → (c == 48) ≡ t →
        digits_value 10 (drop (cond t (1 + prefix_len (λ b. b == 48) cs) 0) (c ∷ cs)) ≡ digits_value 10 (c ∷ cs)
    by_test more true e = ap (λ k. digits_value 10 (drop k (c ∷ cs))) (one_more (prefix_len (λ b. b == 48) cs)) ∙ more
        ∙ ap (λ b. digits_value_after 10 (0 * 10 + digit_value b) cs) (sym (eqb-true c 48 e))
    by_test more false e = refl

-- a part of digits is one of digits
digits_behind : (n : ℕ) (ds : List ℕ) → AllDigits 10 ds → AllDigits 10 (drop n ds)
digits_behind zero ds h = h
digits_behind (suc n) [] h = h
digits_behind (suc n) (c ∷ cs) h = digits_behind n cs h.1

-- powers of ten up to the greatest
pub powers : (k : ℕ) → k ≤ 18 → 10 ^ k ≤ 10 ^ 18
powers k h = pow-le-pow_right {n = 10} (omega arith) {i = k} {j = 18} h

pub short_bound : (ds : List ℕ) → AllDigits 10 ds → significant_len ds ≤ 18 → digits_value 10 ds < 10 ^ 18
short_bound ds h l =
    let rest = drop_while (λ c. c == 48) ds in
    let below = digits_value-lt 10 rest (digits_behind (prefix_len (λ c. c == 48) ds) ds h) in
    subst (λ n. n < 10 ^ 18) (zeros_in_front ds) (le_trans below (powers (length rest) l))

-- parts don't grow
pub in_lowest_terms-le : (num : ℤ) (den : ℕ) →
    (unsigned_abs (in_lowest_terms num den).num ≤ unsigned_abs num) × ((in_lowest_terms num den).den ≤ den)
in_lowest_terms-le (pos n) den = (div-le_self n _, div-le_self den _)
in_lowest_terms-le (negsuc n) den = (le_of_neg _ _ (div-le_self (suc n) _), div-le_self den _)
  where
    le_of_neg : (a b : ℕ) → a ≤ b → unsigned_abs (neg_ℤ (pos a)) ≤ b
    le_of_neg zero b h = h
    le_of_neg (suc a) b h = h

-- a number of 18 digits times such a power has 36
pub product_bound : (n p : ℕ) → n < 10 ^ 18 → p ≤ 10 ^ 18 → n * p ≤ 10 ^ 36
product_bound n p h k = le_trans (mul-le-mul_right p (omega (arith, h))) (mul-le-mul_left (10 ^ 18) k)

pub power_pos : (k : ℕ) → 0 < 10 ^ k
power_pos k = pow-le-pow_right {n = 10} (omega arith) {i = 0} {j = k} zero-le

-- digits of which at most 18 are significant write a number below 10 ^ 18
pub short_value : (ds : List ℕ) → are_digits ds ≡ true → significant_len ds ≤ 18 → digits_value_after 10 0 ds < 10 ^ 18
short_value ds digits short = short_bound ds (AllDigits-from_are_digits ds digits) short

-- and one above 0, where any is
pub positive_value : (ds : List ℕ) → are_digits ds ≡ true → significant_len ds ≢ 0 → 0 < digits_value_after 10 0 ds
positive_value ds digits some = digits_value-pos ds (AllDigits-from_are_digits ds digits) (omega arith)

-- a numeral has only digits
pub numeral_digits : (ds : List ℕ) → is_numeral ds ≡ true → are_digits ds ≡ true
numeral_digits ds e = grind arith

both_digits : (a b : List ℕ) → are_digits a ≡ true → are_digits b ≡ true → are_digits (a ++ b) ≡ true
both_digits a b d e = list_all-append is_ascii_digit a b ∙ cc

-- the same of digits in two parts
pub short_behind : (a b : List ℕ) → are_digits a ≡ true → are_digits b ≡ true → significant_len (a ++ b) ≤ 18 →
    digits_value_after 10 (digits_value_after 10 0 a) b < 10 ^ 18
short_behind a b d e h = subst (λ n. n < 10 ^ 18) (digits_value-append 0 a b) (short_value (a ++ b) (both_digits a b d e) h)

pub short_front : (a b : List ℕ) → are_digits a ≡ true → are_digits b ≡ true → significant_len (a ++ b) ≤ 18 →
    digits_value_after 10 0 a < 10 ^ 18
short_front a b d e h = omega (arith, short_behind a b d e h, le-digits_value_after (digits_value_after 10 0 a) b)
