-- Gain constants: the greatest f at which a number fits, and the fewest bits.
use Rattle.std.proofs.Common.{◌≡◌, refl, sym, ◌∙◌, ap, subst, ℕ, zero, suc, ◌-◌, ◌*◌, ◌%◌, ◌^◌, ◌<◌, ◌≤◌, Bool, true, false, cond, ℤ, pos, neg_ℤ, ◌*ℤ◌, ◌≤ℤ◌, ◌<ℤ◌, inl, inr, Ok, Err, pow-suc, ◌==◌, unsigned_abs, arith}
use Rattle.std.proofs.lemmas.Bool.{eqb-true, eqb-false}
use Rattle.std.proofs.lemmas.Int.{ints}
use borrow.Author.Differences.{up, down}
use Rattle.base_core.specs.declared.base.Decimal.{Decimal}
use Rattle.base_core.specs.declared.base.NumFault.{NumFault}
use Rattle.base_fixed_point.specs.Rounding.{floor_div, is_even}
use Rattle.base_fixed_point.specs.Conversion.{nearest_at, reduced_constant, constant_below, fits_32}
use Rattle.base_fixed_point.specs.Constants.{capped, Fits32, IsReduced, IsGainConstant}
use Rattle.base_fixed_point.proofs.lemmas.RoundingLaws.{rem_split}

less_one : (f : ℕ) → suc f - 1 ≡ f
less_one f = omega arith

-- an even number with bits after the point is half of it with one fewer
pub reduced_constant-even : (f : ℕ) (m : ℤ) → 0 < f → is_even m ≡ true → reduced_constant (f - 1) (floor_div m 2) ≡ reduced_constant f m
reduced_constant-even zero m h e = absurd (omega (arith, h))
reduced_constant-even (suc f) m h e =
    ap (λ k. reduced_constant k (floor_div m 2)) (less_one f) ∙ sym (ap (λ b. cond b (reduced_constant f (floor_div m 2)) (m, suc f)) e)

pub fits_32-capped : (q : ℤ) → fits_32 (capped q) ≡ fits_32 q
fits_32-capped q = grind (arith, ints)

pub capped-fits : (q : ℤ) → fits_32 q ≡ true → capped q ≡ q
capped-fits q e = grind (arith, ints)

-- a number that fits is the one, and one that doesn't is passed over
pub constant_below-fits : (f : ℕ) (d : Decimal) → fits_32 (nearest_at d f) ≡ true →
    constant_below (suc f) d ≡ Ok (reduced_constant f (nearest_at d f))
constant_below-fits f d e = ap (λ b. cond b (Ok (reduced_constant f (nearest_at d f))) (constant_below f d)) e

pub constant_below-passes : (f : ℕ) (d : Decimal) → fits_32 (nearest_at d f) ≡ false → constant_below (suc f) d ≡ constant_below f d
constant_below-passes f d e = ap (λ b. cond b (Ok (reduced_constant f (nearest_at d f))) (constant_below f d)) e

-- the same at one less than a positive number
pub constant_below-fits_at : (k : ℕ) (d : Decimal) → 0 < k → fits_32 (nearest_at d (k - 1)) ≡ true →
    constant_below k d ≡ Ok (reduced_constant (k - 1) (nearest_at d (k - 1)))
constant_below-fits_at zero d h e = absurd (omega (arith, h))
constant_below-fits_at (suc f) d h e =
    subst (λ i. fits_32 (nearest_at d i) ≡ true → constant_below (suc f) d ≡ Ok (reduced_constant i (nearest_at d i)))
    (sym (less_one f)) (constant_below-fits f d) e

pub constant_below-passes_at : (k : ℕ) (d : Decimal) → 0 < k → fits_32 (nearest_at d (k - 1)) ≡ false →
    constant_below (k - 1) d ≡ constant_below k d
constant_below-passes_at zero d h e = absurd (omega (arith, h))
constant_below-passes_at (suc f) d h e =
    subst (λ i. fits_32 (nearest_at d i) ≡ false → constant_below i d ≡ constant_below (suc f) d) (sym (less_one f))
    (λ t. sym (constant_below-passes f d t)) e

Fits32-from_test : (m : ℤ) → fits_32 m ≡ true → Fits32 m
Fits32-from_test m e =
    let low : neg_ℤ (pos (2 ^ 31)) ≤ℤ m = grind (arith, ints) in
    let high : m <ℤ pos (2 ^ 31) = grind (arith, ints) in
    (low, high)

misfit_from_test : (m : ℤ) → fits_32 m ≡ false → ¬ Fits32 m
misfit_from_test m e (a, b) = grind (arith, ints)

-- half of an even number, twice
twice_half : (m : ℤ) → is_even m ≡ true → m ≡ floor_div m 2 *ℤ pos 2
twice_half m e =
    let s = rem_split m 2 (omega arith) in
    let even = eqb-true (unsigned_abs m % 2) 0 e in
    let whole = s.2 in
    let below = s.1 in
    omega (arith, ints, even, whole, below)

-- twice a number times a power of two
twice_times_power : (m : ℤ) (k : ℕ) → (m *ℤ pos (2 ^ k)) *ℤ pos 2 ≡ m *ℤ pos (2 ^ suc k)
twice_times_power m k =
    let p = pow-suc 2 k in
    omega (arith, ints, ap (λ x. up m * x) p, ap (λ x. down m * x) p)

pub reduced_is : (f : ℕ) (n : ℤ) → IsReduced n f (reduced_constant f n).0 (reduced_constant f n).1
reduced_is zero n = record { same = (0, omega arith, omega (arith, ints)); least = inl refl }
reduced_is (suc f) n = by_test (reduced_is f (floor_div n 2)) (is_even n) refl
  where
    by_test : IsReduced (floor_div n 2) f (reduced_constant f (floor_div n 2)).0
        (reduced_constant f (floor_div n 2)).1 → (t : Bool) → is_even n ≡ t →
        IsReduced n (suc f) (cond t (reduced_constant f (floor_div n 2)) (n, suc f)).0
        (cond t (reduced_constant f (floor_div n 2)) (n, suc f)).1
    by_test half true e =
        let m = (reduced_constant f (floor_div n 2)).0 in
        let k = half.same.0 in
        let more = twice_times_power m k in
        record {
          same = (suc k, omega (arith, half.same.1), twice_half n e ∙ ap (λ z. z *ℤ pos 2) half.same.2 ∙ more);
          least = half.least;
        }
    by_test half false e = record { same = (0, omega arith, omega (arith, ints)); least = inr (eqb-false (unsigned_abs n % 2) 0 e) }

-- the constant below k is the gain constant, where none fits from there on
pub constant_is : (k : ℕ) (d : Decimal) (c : ℤ × ℕ) → k ≤ 32 → constant_below k d ≡ Ok c →
    ((g : ℕ) → k ≤ g → g ≤ 31 → ¬ Fits32 (nearest_at d g)) → IsGainConstant d c.0 c.1
constant_is zero d c h e none = cc
constant_is (suc f) d c h e none = by_test (constant_is f d c (omega (arith, h))) (fits_32 (nearest_at d f)) refl
  where
    one_more : fits_32 (nearest_at d f) ≡ false → (g : ℕ) → f ≤ g → g ≤ 31 → ¬ Fits32 (nearest_at d g)
    one_more t g l m = by_order (g == f) refl
      where
        by_order : (b : Bool) → (g == f) ≡ b → ¬ Fits32 (nearest_at d g)
        by_order true s = subst (λ i. ¬ Fits32 (nearest_at d i)) (sym (eqb-true g f s)) (misfit_from_test (nearest_at d f) t)
        by_order false s = let other = eqb-false g f s in none g (omega (arith, l, other)) m

    by_test : (constant_below f d ≡ Ok c → ((g : ℕ) → f ≤ g → g ≤ 31 → ¬ Fits32 (nearest_at d g)) →
        IsGainConstant d c.0 c.1) → (t : Bool) → fits_32 (nearest_at d f) ≡ t → IsGainConstant d c.0 c.1
    by_test rest true t =
        let here = constant_below-fits f d t in
        let same : c ≡ reduced_constant f (nearest_at d f) = cc in
        let is = reduced_is f (nearest_at d f) in
        record {
          top = f;
          bound = omega (arith, h);
          fits = Fits32-from_test (nearest_at d f) t;
          greatest = none;
          reduced = subst (λ x. IsReduced (nearest_at d f) f x.0 x.1) (sym same) is;
        }
    by_test rest false t = rest (sym (constant_below-passes f d t) ∙ e) (one_more t)

-- and where there is none below k, none fits
pub constant_none : (k : ℕ) (d : Decimal) (fault : NumFault) → constant_below k d ≡ Err fault → (g : ℕ) → g < k → ¬ Fits32 (nearest_at d g)
constant_none zero d fault e g h = absurd (omega (arith, h))
constant_none (suc f) d fault e g h = by_test (constant_none f d fault) (fits_32 (nearest_at d f)) refl
  where
    by_test : (constant_below f d ≡ Err fault → (i : ℕ) → i < f → ¬ Fits32 (nearest_at d i)) → (t : Bool) →
        fits_32 (nearest_at d f) ≡ t → ¬ Fits32 (nearest_at d g)
    by_test rest true t = let here = constant_below-fits f d t in cc
    by_test rest false t = by_order (g == f) refl
      where
        by_order : (b : Bool) → (g == f) ≡ b → ¬ Fits32 (nearest_at d g)
        by_order true s = subst (λ i. ¬ Fits32 (nearest_at d i)) (sym (eqb-true g f s)) (misfit_from_test (nearest_at d f) t)
        by_order false s = let other = eqb-false g f s in rest (sym (constant_below-passes f d t) ∙ e) g (omega (arith, h, other))
