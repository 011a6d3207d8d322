-- A conversion has just one result, and it lies in the type.
use Rattle.std.proofs.Common.{◌≡◌, refl, subst, ℕ, ◌-◌, ◌^◌, ◌≤◌, Bool, true, false, cond, ℤ, pos, neg_ℤ, ◌≤ℤ◌, int_lt, arith, pow_pos}
use native.Mathlib.Nat.{pow-le-pow_right}
use Rattle.std.proofs.lemmas.Int.{ints}
use Rattle.base_fixed_point.specs.Profile.{InProfile}
use Rattle.base_fixed_point.specs.declared.types.FixType.{FixType}
use Rattle.base_fixed_point.specs.declared.types.Over.{Over}
use Rattle.base_fixed_point.specs.declared.types.Over.TheVariants.{Saturate, Wrap}
use Rattle.base_fixed_point.specs.Rounding.{rounded}
use Rattle.base_fixed_point.specs.Conversion.{least_of, greatest_of, InType, clamped, cast_into, over_units, under_units, IsCastInto, ConversionIsOne}
use Rattle.base_fixed_point.proofs.lemmas.RoundingLaws.{rounding_is_one}
use Rattle.base_fixed_point.proofs.WrappingLaws.{range_is, wrapping_is_one}

pub least-le-greatest : (t : FixType) → least_of t ≤ℤ greatest_of t
least-le-greatest t = let e = range_is t in let p : 1 ≤ 2 ^ t.bits = pow_pos t.bits in omega (arith, ints, e, p)

pub clamped_in : (t : FixType) (q : ℤ) → InType t (clamped t q)
clamped_in t q = by_least (int_lt q (least_of t)) refl
  where
    by_greatest : (b : Bool) → int_lt (greatest_of t) q ≡ b → least_of t ≤ℤ q → InType t (cond b (greatest_of t) q)
    by_greatest true e h = (least-le-greatest t, omega (arith, ints))
    by_greatest false e h = (h, omega (arith, ints, e))

    by_least : (b : Bool) → int_lt q (least_of t) ≡ b → InType t (cond b (least_of t) (cond (int_lt (greatest_of t) q) (greatest_of t) q))
    by_least true e = (omega (arith, ints), least-le-greatest t)
    by_least false e = by_greatest (int_lt (greatest_of t) q) refl (omega (arith, ints, e))

-- a number that is cast is the one that the mode asks for, and lies in the range
pub cast_into_is : (o : Over) (t : FixType) (q : ℤ) →
    IsCastInto o t q (cast_into o t q) × ((x : ℤ) → IsCastInto o t q x → x ≡ cast_into o t q)
    × InType t (cast_into o t q)
cast_into_is Saturate t q = (refl, λ x e. e, clamped_in t q)
cast_into_is Wrap t q = let w = wrapping_is_one t q in (w.0, w.1, w.0.0)

pub conversion_is_one : ConversionIsOne
conversion_is_one v f t r o =
    let n = over_units v f t.frac in
    let d = under_units f t.frac in
    let one = rounding_is_one r n d (pow_pos (f - t.frac)) in
    let b = cast_into_is o t (rounded r n d) in (
      (rounded r n d, one.0, b.0),
      λ x (q, s, e). b.1 x (subst (λ y. IsCastInto o t y x) (one.1 q s) e),
      b.2,
    )

-- Where the range of a type lies.
pub record RangeBounds (t : FixType) : Type 0 where
  pub low : neg_ℤ (pos (2 ^ 31)) ≤ℤ least_of t
  pub least : least_of t ≤ℤ pos 0
  pub greatest : pos 0 ≤ℤ greatest_of t
  pub high : greatest_of t ≤ℤ pos (2 ^ 32 - 1)
  pub values : 2 ^ t.bits ≤ 2 ^ 32

range_bounds_by : (signed : Bool) (bits frac : ℕ) → (p : InProfile signed bits frac) →
    RangeBounds (record { signed = signed; bits = bits; frac = frac; in_profile = p })
range_bounds_by true bits frac p =
    let half : 2 ^ (bits - 1) ≤ 2 ^ 31 = pow-le-pow_right {n = 2} (omega arith) {i = bits - 1} {j = 31} (omega (arith, p.1)) in
    let all : 2 ^ bits ≤ 2 ^ 32 = pow-le-pow_right {n = 2} (omega arith) {i = bits} {j = 32} p.1 in
    let some : 1 ≤ 2 ^ (bits - 1) = pow_pos (bits - 1) in
    record {
      low = omega (arith, ints, half);
      least = omega (arith, ints);
      greatest = omega (arith, ints, some);
      high = omega (arith, ints, half);
      values = all;
    }
range_bounds_by false bits frac p =
    let all : 2 ^ bits ≤ 2 ^ 32 = pow-le-pow_right {n = 2} (omega arith) {i = bits} {j = 32} p.1 in
    let some : 1 ≤ 2 ^ bits = pow_pos bits in
    record {
      low = omega (arith, ints);
      least = omega (arith, ints);
      greatest = omega (arith, ints, some);
      high = omega (arith, ints, all);
      values = all;
    }

pub range_bounds : (t : FixType) → RangeBounds t
range_bounds t = range_bounds_by t.signed t.bits t.frac t.in_profile
