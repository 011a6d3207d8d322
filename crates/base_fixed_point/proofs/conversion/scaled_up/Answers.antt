use Rattle.std.proofs.Common.{◌≡◌, ◌∙◌, ap, subst, sym, ◌^◌, ◌≤◌, ◌*ℤ◌, ℕ, ℤ, pos, unsigned_abs, to_z, of_z, FitsSigned, arith}
use Rattle.std.specs.Int.{w128}
use Rattle.std.proofs.lemmas.Int.{ints, to_z-of_z}
use Rattle.base_fixed_point.proofs.PowerLaws.{scaled_bound}
use Rattle.base_fixed_point.proofs.conversion.scaled_up.Goals as goal

-- the product of the two numbers in memory, and that it fits
product : (v : ℤ) (k p : ℕ) → FitsSigned w128 v → p ≡ 2 ^ k → p ≤ 2 ^ 93 → to_z w128 (of_z w128 v) *ℤ to_z w128 p ≡ v *ℤ pos (2 ^ k)
product v k p fits e h =
    let power : to_z w128 p ≡ pos (2 ^ k) = omega (arith, ints, e, h) in
    ap (λ z. z *ℤ to_z w128 p) (to_z-of_z w128 v fits) ∙ ap (λ z. v *ℤ z) power

product_fits : (v : ℤ) (k : ℕ) → unsigned_abs v ≤ 2 ^ 62 → k ≤ 31 → FitsSigned w128 (v *ℤ pos (2 ^ k))
product_fits v k h e = let bound = scaled_bound v k h e in omega (arith, ints, bound)

pub overflow_mul-result : goal.overflow_mul-result
overflow_mul-result c =
    subst (FitsSigned w128) (sym (product c.args.v c.args.exponent _ c.ranges.v c.power_of_two.ensures.value c.power_of_two.ensures.bound))
    (product_fits c.args.v c.args.exponent c.requires.v c.requires.exponent)

pub returns : goal.returns
returns c =
    let same = product c.args.v c.args.exponent _ c.ranges.v c.power_of_two.ensures.value c.power_of_two.ensures.bound in
    let whole = ap (λ z. to_z w128 (of_z w128 z)) same
    ∙ to_z-of_z w128 _ (product_fits c.args.v c.args.exponent c.requires.v c.requires.exponent) in
    record {
      value = whole;
      bound = subst (λ z. unsigned_abs z ≤ 2 ^ 93) (sym whole) (scaled_bound c.args.v c.args.exponent c.requires.v c.requires.exponent);
    }
