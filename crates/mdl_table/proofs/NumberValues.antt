-- A text that is a number writes a decimal.
use Rattle.std.proofs.Common.{◌≡◌, refl, sym, ◌∙◌, ap, subst, ℕ, zero, suc, ◌*◌, ◌^◌, ◌<◌, ◌≤◌, nat_le, Bool, true, false, not, ◌&&◌, cond, true≢false, List, [], ◌∷◌, ◌++◌, length, Option, None, Some, ℤ, pos, negsuc, ◌-ℤ◌, unsigned_abs, arith, leb-true, codes}
use Rattle.std.specs.Prelude.{◌==◌, bytes_eq, take_while, Result, Ok, Err}
use Rattle.std.specs.Char.{is_ascii_digit}
use Rattle.std.specs.Result.{result_map_both}
use Rattle.std.specs.Str.Parse.{digits_value, starts_with_minus, without_leading_sign}
use Rattle.std.proofs.lemmas.List.Folds.{list_all-append}
use Rattle.std.proofs.lemmas.Bool.{eqb-false}
use Rattle.base_core.specs.Bytes.{drop_while, trim}
use Rattle.base_core.specs.Numbers.{AreLowest}
use Rattle.base_numerals.specs.Literals.{Ratio, Exponent, in_lowest_terms, are_digits, is_numeral, is_short, significant_len, with_sign, exponent_of, times_power_of_ten, point_value, with_exponent, quotient_value, after_digits, plain_value, number_value, without_brackets}
use Rattle.base_core.specs.declared.NumFault.{NumFault}
use Rattle.base_numerals.proofs.lemmas.DigitLaws.{are_digits-take_while}
use Rattle.base_numerals.proofs.lemmas.LowestTerms.{in_lowest_terms_is}
use Rattle.base_numerals.proofs.lemmas.NumberBounds.{in_lowest_terms-le, powers, power_pos, product_bound, short_value, positive_value, numeral_digits}
use Rattle.mdl_params.specs.declared.ParamFault.TheVariants.{Parameter}
use Rattle.mdl_params.specs.Forms.{number_form}

pub and-left : (a b : Bool) → (a && b) ≡ true → a ≡ true
and-left true b e = refl
and-left false b e = e

pub and-right : (a b : Bool) → (a && b) ≡ true → b ≡ true
and-right true b e = e
and-right false b e = absurd (true≢false (sym e))

-- a fraction in lowest terms whose parts are within the limits
pub record IsDecimal (r : Ratio) : Type 0 where
  pub lowest : AreLowest (unsigned_abs r.num) r.den
  pub num_bound : unsigned_abs r.num ≤ 10 ^ 36
  pub den_bound : r.den ≤ 10 ^ 18

-- a result that is a number is such a fraction
abbrev pub GivesDecimal : Result Ratio NumFault → Type 0
GivesDecimal (Ok r) = IsDecimal r
GivesDecimal (Err fault) = Unit {0}

gives-by : (t : Bool) (r s : Result Ratio NumFault) → (t ≡ true → GivesDecimal r) → (t ≡ false → GivesDecimal s) → GivesDecimal (cond t r s)
gives-by true r s p q = p refl
gives-by false r s p q = q refl

lowest-decimal : (num : ℤ) (den : ℕ) → 0 < den → unsigned_abs num ≤ 10 ^ 36 → den ≤ 10 ^ 18 → IsDecimal (in_lowest_terms num den)
lowest-decimal num den some top bottom =
    let less = in_lowest_terms-le num den in
    record { lowest = in_lowest_terms_is num den some; num_bound = omega (arith, less.0, top); den_bound = omega (arith, less.1, bottom) }

sign-size : (negative : Bool) (n : ℕ) → unsigned_abs (with_sign negative n) ≡ n
sign-size false n = refl
sign-size true zero = refl
sign-size true (suc n) = refl

signed-decimal : (negative : Bool) (num den : ℕ) → 0 < den → num ≤ 10 ^ 36 → den ≤ 10 ^ 18 →
    IsDecimal (in_lowest_terms (with_sign negative num) den)
signed-decimal negative num den some top bottom =
    lowest-decimal (with_sign negative num) den some (subst (λ n. n ≤ 10 ^ 36) (sym (sign-size negative num)) top) bottom

one_is : IsDecimal (record { num = pos 1; den = 1 })
one_is = signed-decimal false 1 1 (omega arith) (omega arith) (omega arith)

-- 0 is one
pub zero_is : IsDecimal (record { num = pos 0; den = 1 })
zero_is = signed-decimal false 0 1 (omega arith) (omega arith) (omega arith)

below-most : (n : ℕ) → n < 10 ^ 18 → n ≤ 10 ^ 36
below-most n h = omega (arith, h)

times-decimal : (negative : Bool) (n : ℕ) (power : ℤ) → n < 10 ^ 18 → unsigned_abs power ≤ 18 →
    IsDecimal (times_power_of_ten negative n power)
times-decimal negative n (pos power) h k =
    signed-decimal negative (n * 10 ^ power) 1 (omega arith) (product_bound n (10 ^ power) h (powers power k)) (omega arith)
times-decimal negative n (negsuc power) h k =
    signed-decimal negative n (10 ^ suc power) (power_pos (suc power)) (below-most n h) (powers (suc power) k)

point-gives : (negative : Bool) (before behind : List ℕ) (exponent : Exponent) → are_digits (before ++ behind) ≡ true →
    GivesDecimal (point_value negative before behind exponent)
point-gives negative before behind exponent digits =
    gives-by (significant_len (before ++ behind) == 0) _ _
    (λ e. gives-by (nat_le (length exponent.digits) 18) _ _ (λ e. zero_is) (λ e. tt))
    (λ e. gives-by (is_short (before ++ behind) && is_short exponent.digits && nat_le (unsigned_abs power) 18) _ _
    (λ e. times-decimal negative (digits_value 10 (before ++ behind)) power
    (short_value (before ++ behind) digits (leb-true (significant_len (before ++ behind)) 18 (and-left _ _ (and-left _ _ e))))
    (leb-true (unsigned_abs power) 18 (and-right _ _ e))) (λ e. tt))
  where
    power : ℤ
    power = with_sign exponent.negative (digits_value 10 exponent.digits) -ℤ pos (length behind)

exponent-gives : (negative : Bool) (before behind : List ℕ) (exponent : Option Exponent) → are_digits (before ++ behind) ≡ true →
    GivesDecimal (with_exponent negative before behind exponent)
exponent-gives negative before behind None digits = tt
exponent-gives negative before behind (Some exponent) digits =
    gives-by (length (before ++ behind) == 0) _ _ (λ e. tt) (λ e. point-gives negative before behind exponent digits)

not-true : (t : Bool) → not t ≡ true → t ≡ false
not-true true e = absurd (true≢false (sym e))
not-true false e = refl

quotient-gives : (negative : Bool) (over under : List ℕ) → GivesDecimal (quotient_value negative over under)
quotient-gives negative over under =
    gives-by (is_numeral over && is_numeral under && not (significant_len under == 0)) _ _
    (λ e. gives-by (is_short over && is_short under) _ _ (λ f.
    let top = numeral_digits over (and-left _ _ (and-left _ _ e)) in
    let bottom = numeral_digits under (and-right _ _ (and-left _ _ e)) in
    let some = eqb-false (significant_len under) 0 (not-true (significant_len under == 0) (and-right _ _ e)) in
    signed-decimal negative (digits_value 10 over) (digits_value 10 under) (positive_value under bottom some)
    (below-most (digits_value 10 over) (short_value over top (leb-true (significant_len over) 18 (and-left _ _ f))))
    (below-limit (digits_value 10 under) (short_value under bottom (leb-true (significant_len under) 18 (and-right _ _ f))))) (λ f. tt))
    (λ e. tt)
  where
    below-limit : (n : ℕ) → n < 10 ^ 18 → n ≤ 10 ^ 18
    below-limit n h = omega (arith, h)

all-digits : (a b : List ℕ) → are_digits a ≡ true → are_digits b ≡ true → are_digits (a ++ b) ≡ true
all-digits a b d e = list_all-append is_ascii_digit a b ∙ cc

digits-give : (negative : Bool) (digits rest : List ℕ) → are_digits digits ≡ true → GivesDecimal (after_digits negative digits rest)
digits-give negative digits [] h = exponent-gives negative digits [] (exponent_of []) (all-digits digits [] h refl)
digits-give negative digits (c ∷ rest) h =
    gives-by (c == 47) _ _ (λ e. quotient-gives negative digits rest)
    (λ e. gives-by (c == 46) _ _
    (λ e. exponent-gives negative digits (take_while is_ascii_digit rest) (exponent_of (drop_while is_ascii_digit rest))
    (all-digits digits (take_while is_ascii_digit rest) h (are_digits-take_while rest)))
    (λ e. exponent-gives negative digits [] (exponent_of (c ∷ rest)) (all-digits digits [] h refl)))

-- a number without brackets is one
pub plain-gives : (text : List ℕ) → GivesDecimal (plain_value text)
plain-gives text =
    gives-by (bytes_eq text (codes "true")) _ _ (λ e. one_is)
    (λ e. gives-by (bytes_eq text (codes "false")) _ _ (λ e. zero_is)
    (λ e. digits-give (starts_with_minus text) (take_while is_ascii_digit (without_leading_sign text))
    (drop_while is_ascii_digit (without_leading_sign text))
    (are_digits-take_while (without_leading_sign text))))

-- a number that a text writes is a decimal
pub number-decimal : (text : List ℕ) (r : Ratio) → number_form text ≡ Ok r → IsDecimal r
number-decimal text r e = by (number_value text) (plain-gives (without_brackets (trim text))) e
  where
    by : (result : Result Ratio NumFault) → GivesDecimal result → result_map_both (λ value. value) (λ fault. Parameter) result ≡ Ok r →
        IsDecimal r
    by (Ok s) is e = subst IsDecimal (ap (λ x. elim x [ Ok y ↦ y | Err fault ↦ s ]) e) is
    by (Err fault) is e = absurd (let wrong : ⊥ = cc e in wrong)
