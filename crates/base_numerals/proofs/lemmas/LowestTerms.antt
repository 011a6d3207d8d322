-- Fractions that are divided by the greatest common divisor of their parts.
use Rattle.std.proofs.Common.{◌≡◌, refl, sym, ap, subst, ℕ, zero, suc, ◌*◌, ◌/◌, ◌%◌, ◌<◌, ℤ, pos, negsuc, neg_ℤ, unsigned_abs, arith, mod-lt, ◌≢◌, ◌≤◌, ◌∙◌, Bool, true, false, div-le_self}
use Rattle.std.specs.Int.{IsGcd, ◌∣◌}
use Rattle.std.proofs.lemmas.Nat.Gcd.{IsGcd-from_mod, same_from_IsGcd}
use native.Mathlib.Nat.{div-mul_cancel, dvd_of_mul-dvd-mul_right, mul-dvd-mul_right, pos_of_dvd_of_pos, one-dvd}
use Rattle.base_core.specs.Numbers.{AreLowest, gcd}
use Rattle.base_core.proofs.lemmas.Divisors.{gcd_is, gcd_pos}
use Rattle.base_numerals.specs.Literals.{Ratio, in_lowest_terms, with_sign}

-- divided by their greatest common divisor, two numbers have 1 as theirs
pub divided_is : (a b g : ℕ) → 0 < g → IsGcd a b g → IsGcd (a / g) (b / g) 1
divided_is a b g h p = (
  one-dvd (a / g),
  one-dvd (b / g),
  λ d x y. dvd_of_mul-dvd-mul_right {k = g} d {n = 1} h
      (subst (λ n. d * g ∣ n) (sym (one_times g)) (p.2 (d * g)
      (subst (λ n. d * g ∣ n) (div-mul_cancel g p.0) (mul-dvd-mul_right d x g))
      (subst (λ n. d * g ∣ n) (div-mul_cancel g p.1) (mul-dvd-mul_right d y g)))),
)
  where
    one_times : (n : ℕ) → 1 * n ≡ n
    one_times n = omega arith

divided_pos : (b g : ℕ) → 0 < b → g ∣ b → 0 < b / g
divided_pos b g h d = positive (b / g) (λ e. absurd (omega (arith, h, div-mul_cancel g d, ap (λ n. n * g) e)))
  where
    positive : (n : ℕ) → n ≢ 0 → 0 < n
    positive zero f = absurd (f refl)
    positive (suc n) f = omega arith

abs-neg : (n : ℕ) → unsigned_abs (neg_ℤ (pos n)) ≡ n
abs-neg zero = refl
abs-neg (suc n) = refl

-- what `in_lowest_terms` gives is in lowest terms
pub in_lowest_terms_is : (num : ℤ) (den : ℕ) → 0 < den →
    AreLowest (unsigned_abs (in_lowest_terms num den).num) (in_lowest_terms num den).den
in_lowest_terms_is (pos n) den h =
    let g = gcd_is n den in
    (divided_pos den (gcd n den) h g.1, divided_is n den (gcd n den) (gcd_pos n den h) g)
in_lowest_terms_is (negsuc n) den h =
    let g = gcd_is (suc n) den in (
      divided_pos den (gcd (suc n) den) h g.1,
      subst (λ x. IsGcd x (den / gcd (suc n) den) 1) (sym (abs-neg (suc n / gcd (suc n) den)))
          (divided_is (suc n) den (gcd (suc n) den) (gcd_pos (suc n) den h) g),
    )

abbrev the_ratio : ℤ → ℕ → Ratio
the_ratio num den = record { num = num; den = den }

-- the sign may be set after the division
in_lowest_terms-with_sign : (negative : Bool) (num den : ℕ) →
    in_lowest_terms (with_sign negative num) den ≡ record { num = with_sign negative (num / gcd num den); den = den / gcd num den }
in_lowest_terms-with_sign false num den = refl
in_lowest_terms-with_sign true zero den = by_quotient (0 / gcd 0 den) (omega (arith, div-le_self 0 (gcd 0 den)))
  where
    by_quotient : (n : ℕ) → n ≡ 0 → the_ratio (pos n) (den / gcd 0 den) ≡ the_ratio (neg_ℤ (pos n)) (den / gcd 0 den)
    by_quotient n e = ap (λ k. the_ratio (pos k) (den / gcd 0 den)) e ∙ sym (ap (λ k. the_ratio (neg_ℤ (pos k)) (den / gcd 0 den)) e)
in_lowest_terms-with_sign true (suc n) den = refl

-- A fraction z / q that num / den, with a sign, becomes in lowest terms.
pub record IsLowestOf (negative : Bool) (num den : ℕ) (z : ℤ) (q : ℕ) : Type 0 where
  pub value : in_lowest_terms (with_sign negative num) den ≡ record { num = z; den = q }
  pub lowest : AreLowest (unsigned_abs z) q
  pub num_bound : unsigned_abs z ≤ num
  pub den_bound : q ≤ den

unsigned_abs-with_sign : (negative : Bool) (n : ℕ) → unsigned_abs (with_sign negative n) ≡ n
unsigned_abs-with_sign false n = refl
unsigned_abs-with_sign true n = abs-neg n

-- division by the greatest common divisor of the denominator and the rest gives that
pub divided_is_lowest : (negative : Bool) (num den g : ℕ) (z : ℤ) (q : ℕ) → 0 < den → IsGcd den (num % den) g →
    z ≡ with_sign negative (num / g) → q ≡ den / g →
    IsLowestOf negative num den z q
divided_is_lowest negative num den g z q h is e f =
    let same = same_from_IsGcd num den g (gcd num den) (IsGcd-from_mod num den g is) (gcd_is num den) in
    let top : z ≡ with_sign negative (num / gcd num den) = e ∙ ap (λ n. with_sign negative (num / n)) same in
    let bottom : q ≡ den / gcd num den = f ∙ ap (λ n. den / n) same in
    let size : unsigned_abs z ≡ num / gcd num den = ap unsigned_abs top ∙ unsigned_abs-with_sign negative (num / gcd num den) in
    let divisor = gcd_is num den in
    record {
      value = in_lowest_terms-with_sign negative num den
          ∙ sym (ap (λ n. the_ratio n q) top ∙ ap (the_ratio (with_sign negative (num / gcd num den))) bottom);
      lowest = subst (λ n. AreLowest n q) (sym size) (subst (λ n. AreLowest (num / gcd num den) n) (sym bottom)
          (divided_pos den (gcd num den) h divisor.1, divided_is num den (gcd num den) (gcd_pos num den h) divisor));
      num_bound = subst (λ n. n ≤ num) (sym size) (div-le_self num (gcd num den));
      den_bound = subst (λ n. n ≤ den) (sym bottom) (div-le_self den (gcd num den));
    }
