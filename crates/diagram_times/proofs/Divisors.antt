-- Greatest common divisors and least common multiples of two numbers, and of all numbers of a list.
use Rattle.std.proofs.Common.{◌≡◌, refl, sym, ◌∙◌, ap, subst, arith, ℕ, zero, suc, ◌*◌, ◌/◌, ◌%◌, ◌<◌, List, [], ◌∷◌, ◌++◌, map, inl, inr, mod-lt}
use Rattle.std.specs.Prelude.{fold, ◌⊎◌}
use Rattle.std.specs.Int.{IsGcd, ◌∣◌}
use Rattle.std.proofs.Math.Nat.{div-mul_cancel, mul-div_assoc, dvd-mul_right}
use Rattle.std.proofs.lemmas.Nat.Gcd.{IsGcd-from_zero, IsGcd-from_mod, dvd_refl, dvd_trans, same_from_IsGcd}
use native.Mathlib.Nat.{one-dvd, dvd-zero}
use Rattle.base_core.specs.Numbers.{gcd_within, gcd, lcm}

gcd_within-is : (turns a b : ℕ) → b < turns → IsGcd a b (gcd_within turns a b)
gcd_within-is zero a b h = absurd (omega (arith, h))
gcd_within-is (suc turns) a zero h = IsGcd-from_zero a zero refl
gcd_within-is (suc turns) a (suc b) h =
    let above : 0 < suc b = omega arith in
    IsGcd-from_mod a (suc b) _ (gcd_within-is turns (suc b) (a % suc b) (omega (arith, h, mod-lt a above)))

pub gcd-is : (a b : ℕ) → IsGcd a b (gcd a b)
gcd-is a b = gcd_within-is (suc b) a b (omega arith)

-- a positive number over a divisor is positive
pub part-positive : (g b : ℕ) → g ∣ b → 0 < b → 0 < b / g
part-positive g b divides above = by (b / g) (div-mul_cancel g divides)
  where
    by : (n : ℕ) → n * g ≡ b → 0 < n
    by zero e = absurd (omega (arith, above, e))
    by (suc n) e = omega arith

pub lcm-left : (a b : ℕ) → a ∣ lcm a b
lcm-left a b = subst (λ n. a ∣ n) (sym (mul-div_assoc (gcd a b) a (gcd-is a b).1)) (dvd-mul_right a (b / gcd a b))

swapped : (a b : ℕ) → a * b ≡ b * a
swapped a b = omega arith

pub lcm-right : (a b : ℕ) → b ∣ lcm a b
lcm-right a b = subst (λ n. b ∣ n)
    (sym (ap (λ n. n / gcd a b) (swapped a b) ∙ mul-div_assoc (gcd a b) b (gcd-is a b).0)) (dvd-mul_right b (a / gcd a b))

product-positive : (a b : ℕ) → 0 < a → 0 < b → 0 < a * b
product-positive zero b h k = absurd (omega (arith, h))
product-positive (suc a) b h k = omega (arith, k)

pub lcm-positive : (a b : ℕ) → 0 < a → 0 < b → 0 < lcm a b
lcm-positive a b h k =
    subst (λ n. 0 < n) (sym (mul-div_assoc (gcd a b) a (gcd-is a b).1))
    (product-positive a (b / gcd a b) h (part-positive (gcd a b) b (gcd-is a b).1 k))

-- the first of some numbers
pub gcd-first : (n : ℕ) → gcd 0 n ≡ n
gcd-first n = same_from_IsGcd 0 n (gcd 0 n) n (gcd-is 0 n) (dvd-zero n, dvd_refl n, λ d by_none by_n. by_n)

pub lcm-first : (n : ℕ) → lcm 1 n ≡ n
lcm-first n =
    let one : 1 ≡ gcd 1 n = same_from_IsGcd 1 n 1 (gcd 1 n) (one-dvd 1, one-dvd n, λ d by_one by_n. by_one) (gcd-is 1 n) in
    let product : 1 * n ≡ n = omega arith in
    sym (ap (λ g. 1 * n / g) one) ∙ ap (λ m. m / 1) product ∙ (let e : n / 1 ≡ n = omega arith in e)

-- ---- All numbers that a function gives of a list

abbrev pub Member : {X : Type 0} → X → List X → Type 0
Member x [] = ⊥
Member x (y ∷ ys) = (x ≡ y) ⊎ Member x ys

pub member-left : {X : Type 0} (x : X) (xs ys : List X) → Member x xs → Member x (xs ++ ys)
member-left x [] ys h = absurd h
member-left x (y ∷ xs) ys (inl e) = inl e
member-left x (y ∷ xs) ys (inr more) = inr (member-left x xs ys more)

pub member-right : {X : Type 0} (x : X) (xs ys : List X) → Member x ys → Member x (xs ++ ys)
member-right x [] ys h = h
member-right x (y ∷ xs) ys h = inr (member-right x xs ys h)

module _ {X : Type 0} (f : X → ℕ) where
  lcm-keeps : (k so_far : ℕ) (xs : List X) → k ∣ so_far → k ∣ fold lcm so_far (map f xs)
  lcm-keeps k so_far [] h = h
  lcm-keeps k so_far (x ∷ xs) h = lcm-keeps k (lcm so_far (f x)) xs (dvd_trans k h (lcm-left so_far (f x)))

  pub lcm-member : (so_far : ℕ) (x : X) (xs : List X) → Member x xs → f x ∣ fold lcm so_far (map f xs)
  lcm-member so_far x [] h = absurd h
  lcm-member so_far x (y ∷ xs) (inl e) = lcm-keeps (f x) (lcm so_far (f y)) xs
      (subst (λ z. f z ∣ lcm so_far (f y)) (sym e) (lcm-right so_far (f y)))
  lcm-member so_far x (y ∷ xs) (inr more) = lcm-member (lcm so_far (f y)) x xs more

  pub lcm-all_positive : (so_far : ℕ) (xs : List X) → ((x : X) → 0 < f x) → 0 < so_far → 0 < fold lcm so_far (map f xs)
  lcm-all_positive so_far [] each h = h
  lcm-all_positive so_far (x ∷ xs) each h = lcm-all_positive (lcm so_far (f x)) xs each (lcm-positive so_far (f x) h (each x))

  gcd-keeps : (so_far : ℕ) (xs : List X) → fold gcd so_far (map f xs) ∣ so_far
  gcd-keeps so_far [] = dvd_refl so_far
  gcd-keeps so_far (x ∷ xs) = dvd_trans _ (gcd-keeps (gcd so_far (f x)) xs) (gcd-is so_far (f x)).0

  pub gcd-member : (so_far : ℕ) (x : X) (xs : List X) → Member x xs → fold gcd so_far (map f xs) ∣ f x
  gcd-member so_far x [] h = absurd h
  gcd-member so_far x (y ∷ xs) (inl e) = dvd_trans _ (gcd-keeps (gcd so_far (f y)) xs)
      (subst (λ z. gcd so_far (f y) ∣ f z) (sym e) (gcd-is so_far (f y)).1)
  gcd-member so_far x (y ∷ xs) (inr more) = gcd-member (gcd so_far (f y)) x xs more
