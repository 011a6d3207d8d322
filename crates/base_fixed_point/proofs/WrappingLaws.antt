-- A number has just one other in the range of a type that differs from it by a multiple of the range.
use Rattle.std.proofs.Common.{◌≡◌, ap, ℕ, zero, suc, ◌-◌, ◌^◌, ◌≤◌, Bool, true, false, cond, ℤ, pos, ◌+ℤ◌, ◌-ℤ◌, ◌*ℤ◌, neg_ℤ, arith, pow_pos, pow-suc}
use Rattle.std.proofs.lemmas.Int.{ints}
use Rattle.base_fixed_point.specs.Profile.{InProfile}
use Rattle.base_fixed_point.specs.declared.types.FixType.{FixType}
use Rattle.base_fixed_point.specs.Rounding.{floor_div}
use Rattle.base_fixed_point.specs.Conversion.{least_of, greatest_of, IsWrapped, wrapped}
use Rattle.base_fixed_point.proofs.lemmas.RoundingLaws.{close, rem_split}

-- the range of a type has 2 ^ bits numbers
range_by : (signed : Bool) (bits frac : ℕ) → InProfile signed bits frac →
    cond signed (pos (2 ^ (bits - 1) - 1)) (pos (2 ^ bits - 1)) +ℤ pos 1
    ≡ cond signed (neg_ℤ (pos (2 ^ (bits - 1)))) (pos 0) +ℤ pos (2 ^ bits)
range_by true zero frac p = absurd (omega (arith, p.0))
range_by true (suc b) frac p =
    let e = ap (λ k. 2 ^ k) (less_one b) in
    let t = pow-suc 2 b in
    let g : 1 ≤ 2 ^ b = pow_pos b in
    omega (arith, ints, e, t, g)
  where
    less_one : (b : ℕ) → suc b - 1 ≡ b
    less_one b = omega arith
range_by false bits frac p = let g : 1 ≤ 2 ^ bits = pow_pos bits in omega (arith, ints, g)

pub range_is : (t : FixType) → greatest_of t +ℤ pos 1 ≡ least_of t +ℤ pos (2 ^ t.bits)
range_is t = range_by t.signed t.bits t.frac t.in_profile

wrapped_is : (t : FixType) (q : ℤ) → IsWrapped t q (wrapped t q)
wrapped_is t q =
    let m = 2 ^ t.bits in
    let h : 1 ≤ m = pow_pos t.bits in
    let z = q -ℤ least_of t in
    let s = rem_split z m h in
    let r = s.3 in
    let w = range_is t in
    let l = s.1 in
    let e = s.2 in
    ((omega (arith, ints, r), omega (arith, ints, r, w, l)), (floor_div z m, omega (arith, ints, r, e)))

wrapped_one : (t : FixType) (q x y : ℤ) → IsWrapped t q x → IsWrapped t q y → x ≡ y
wrapped_one t q x y a b =
    let m = 2 ^ t.bits in
    let w = range_is t in
    let a0 = a.0.0 in
    let a1 = a.0.1 in
    let b0 = b.0.0 in
    let b1 = b.0.1 in
    let e = a.1.1 in
    let f = b.1.1 in
    let same = close a.1.0 b.1.0 m (omega (arith, ints, w, a0, a1, b0, b1, e, f)) (omega (arith, ints, w, a0, a1, b0, b1, e, f)) in
    let times = ap (λ k. k *ℤ pos m) same in
    omega (arith, ints, times, e, f)

-- there is just one such number, and it is `wrapped`
pub wrapping_is_one : (t : FixType) (q : ℤ) → IsWrapped t q (wrapped t q) × ((x : ℤ) → IsWrapped t q x → x ≡ wrapped t q)
wrapping_is_one t q = (wrapped_is t q, λ x a. wrapped_one t q x (wrapped t q) a (wrapped_is t q))
