-- Decimals in units of a power of two, by their whole part and the rest.
use Rattle.std.proofs.Common.{◌≡◌, sym, ◌∙◌, ap, ℕ, zero, suc, ◌+◌, ◌*◌, ◌/◌, ◌^◌, ◌<◌, ◌≤◌, cond, ℤ, pos, negsuc, neg_ℤ, ◌+ℤ◌, ◌*ℤ◌, ◌≤ℤ◌, ◌<ℤ◌, int_lt, arith, pow_pos, mul-le-mul_left}
use Rattle.std.proofs.Math.Nat.{div-lt_iff_lt-mul, mul-le-mul_right}
use Rattle.std.proofs.lemmas.Int.{ints}
use Rattle.std.specs.Int.{int_rem_euclid}
use borrow.Author.Differences.{up, down}
use Rattle.base_fixed_point.specs.Rounding.{IsNearest, floor_div, nearest}
use Rattle.base_fixed_point.specs.declared.types.FixType.{FixType}
use Rattle.base_fixed_point.specs.Conversion.{least_of, greatest_of, clamped}
use Rattle.base_fixed_point.proofs.lemmas.ConversionLaws.{range_bounds}
use Rattle.base_fixed_point.specs.Constants.{capped}
use Rattle.base_fixed_point.proofs.lemmas.RoundingLaws.{sum_times, next_times, twice_times, nearest_is, nearest_one, rem_split}

-- ---- A whole part may be taken out

swap_times : (w : ℤ) (d p : ℕ) → (w *ℤ pos d) *ℤ pos p ≡ (w *ℤ pos p) *ℤ pos d
swap_times w d p =
    let a : up (w *ℤ pos d) + down w * d ≡ down (w *ℤ pos d) + up w * d = omega (arith, ints) in
    let b : up (w *ℤ pos p) + down w * p ≡ down (w *ℤ pos p) + up w * p = omega (arith, ints) in
    let m = ap (λ x. x * p) a in
    let n = ap (λ x. x * d) b in
    omega (arith, ints, m, n)

nearest-shift : (n k : ℤ) (d : ℕ) → 1 ≤ d → nearest (n +ℤ (k *ℤ pos d)) d ≡ nearest n d +ℤ k
nearest-shift n k d h =
    let q = nearest n d in
    let is = nearest_is n d h in
    let is0 = is.0 in
    let is1 = is.1 in
    let a = twice_times q d in
    let b = twice_times (q +ℤ k) d in
    let c = sum_times q k d in
    let a' = twice_times (q +ℤ pos 1) d in
    let b' = twice_times ((q +ℤ k) +ℤ pos 1) d in
    let c' = next_times (q +ℤ k) d in
    let c'' = next_times q d in
    let shifted : IsNearest (n +ℤ (k *ℤ pos d)) d (q +ℤ k) =
    (omega (arith, ints, is0, a, b, c), omega (arith, ints, is1, a', b', c, c', c'')) in
    nearest_one (n +ℤ (k *ℤ pos d)) d (nearest (n +ℤ (k *ℤ pos d)) d) (q +ℤ k) (nearest_is (n +ℤ (k *ℤ pos d)) d h) shifted

-- a number of w units and r parts of d, in units of which p make one
pub nearest-split : (n w : ℤ) (d r p : ℕ) → 1 ≤ d → n ≡ (w *ℤ pos d) +ℤ pos r →
    nearest (n *ℤ pos p) d ≡ (w *ℤ pos p) +ℤ nearest (pos r *ℤ pos p) d
nearest-split n w d r p h e =
    let s = sum_times (w *ℤ pos d) (pos r) p in
    let t = swap_times w d p in
    let parts : n *ℤ pos p ≡ (pos r *ℤ pos p) +ℤ ((w *ℤ pos p) *ℤ pos d) = ap (λ z. z *ℤ pos p) e ∙ omega (arith, ints, s, t) in
    let moved = nearest-shift (pos r *ℤ pos p) (w *ℤ pos p) d h in
    ap (λ z. nearest z d) parts ∙ moved ∙ omega (arith, ints)

-- ---- Bounds

-- a part below one unit comes to at most one unit
pub nearest-part : (r p d : ℕ) → r < d → (pos 0 ≤ℤ nearest (pos r *ℤ pos p) d) × (nearest (pos r *ℤ pos p) d ≤ℤ pos p)
nearest-part r p d h =
    let room : suc r * p ≤ d * p = mul-le-mul_right p h in
    let below : 2 * (r * p) + d < (p + 1) * (2 * d) = omega (arith, h, room) in
    let most : (2 * (r * p) + d) / (2 * d) < p + 1 =
    (div-lt_iff_lt-mul {k = 2 * d} {x = 2 * (r * p) + d} {y = p + 1} (omega (arith, h))).1 below in
    let low : pos 0 ≤ℤ nearest (pos r *ℤ pos p) d = omega (arith, ints) in
    let high : nearest (pos r *ℤ pos p) d ≤ℤ pos p = omega (arith, ints, most) in
    (low, high)

-- a product with a number of at least 1 is at least as far from 0
times_far : (w : ℤ) (p : ℕ) → 1 ≤ p → (pos 0 ≤ℤ w → w ≤ℤ (w *ℤ pos p)) × (w ≤ℤ pos 0 → (w *ℤ pos p) ≤ℤ w)
times_far (pos a) p h = let m = mul-le-mul_left a h in (λ _. omega (arith, ints, m), λ e. none a e)
  where
    none : (a : ℕ) → pos a ≤ℤ pos 0 → (pos a *ℤ pos p) ≤ℤ pos a
    none zero e = omega (arith, ints)
    none (suc a) e = absurd (omega (arith, ints, e))
times_far (negsuc a) p h = let m = mul-le-mul_left (suc a) h in (λ e. omega (arith, ints, m, e), λ _. omega (arith, ints, m))

pub capped-low : (q : ℤ) → q ≤ℤ neg_ℤ (pos (2 ^ 40)) → capped q ≡ neg_ℤ (pos (2 ^ 40))
capped-low q h = grind (arith, ints)

pub capped-high : (q : ℤ) → pos (2 ^ 40) ≤ℤ q → capped q ≡ pos (2 ^ 40)
capped-high q h = grind (arith, ints)

-- ---- The three cases of the code

unit_split : (n : ℤ) (d : ℕ) (w : ℤ) → 1 ≤ d → w ≡ floor_div n d →
    (r : ℕ) × (r < d) × (n ≡ (w *ℤ pos d) +ℤ pos r) × (int_rem_euclid n (pos d) ≡ pos r)
unit_split n d w h e =
    let s = rem_split n d h in
    (s.0, s.1, s.2 ∙ ap (λ z. (z *ℤ pos d) +ℤ pos s.0) (sym e), s.3)

-- far below 0
pub nearest-far_low : (n : ℤ) (d : ℕ) (w : ℤ) (f : ℕ) → 1 ≤ d → w ≡ floor_div n d → w <ℤ neg_ℤ (pos (2 ^ 41)) →
    neg_ℤ (pos (2 ^ 40)) ≡ capped (nearest (n *ℤ pos (2 ^ f)) d)
nearest-far_low n d w f h e far =
    let u = unit_split n d w h e in
    let p = 2 ^ f in
    let some : 1 ≤ p = pow_pos f in
    let split = nearest-split n w d u.0 p h u.2 in
    let part = nearest-part u.0 p d u.1 in
    let part1 = part.1 in
    let next = times_far (w +ℤ pos 1) p some in
    let low = next.1 (omega (arith, ints, far)) in
    let step = next_times w p in
    sym (capped-low (nearest (n *ℤ pos p) d) (omega (arith, ints, split, part1, low, step, far)))

-- far above
pub nearest-far_high : (n : ℤ) (d : ℕ) (w : ℤ) (f : ℕ) → 1 ≤ d → w ≡ floor_div n d → pos (2 ^ 41) <ℤ w →
    pos (2 ^ 40) ≡ capped (nearest (n *ℤ pos (2 ^ f)) d)
nearest-far_high n d w f h e far =
    let u = unit_split n d w h e in
    let p = 2 ^ f in
    let some : 1 ≤ p = pow_pos f in
    let split = nearest-split n w d u.0 p h u.2 in
    let part = nearest-part u.0 p d u.1 in
    let part0 = part.0 in
    let high = (times_far w p some).0 (omega (arith, ints, far)) in
    sym (capped-high (nearest (n *ℤ pos p) d) (omega (arith, ints, split, part0, high, far)))

-- and else by the whole part and the rest
pub nearest-near : (n : ℤ) (d : ℕ) (w r : ℤ) (f : ℕ) → 1 ≤ d → w ≡ floor_div n d → r ≡ int_rem_euclid n (pos d) →
    (w *ℤ pos (2 ^ f)) +ℤ nearest (r *ℤ pos (2 ^ f)) d ≡ nearest (n *ℤ pos (2 ^ f)) d
nearest-near n d w r f h e k =
    let u = unit_split n d w h e in
    let split = nearest-split n w d u.0 (2 ^ f) h u.2 in
    ap (λ z. (w *ℤ pos (2 ^ f)) +ℤ nearest (z *ℤ pos (2 ^ f)) d) (k ∙ u.3) ∙ sym split

-- what is capped far outside a range is clamped as it was
clamped-capped_by : (low high q : ℤ) → neg_ℤ (pos (2 ^ 40)) ≤ℤ low → low ≤ℤ high → high ≤ℤ pos (2 ^ 40) →
    cond (int_lt (capped q) low) low (cond (int_lt high (capped q)) high (capped q)) ≡ cond (int_lt q low) low (cond (int_lt high q) high q)
clamped-capped_by low high q a b c = grind (arith, ints)

pub clamped-capped : (t : FixType) (q : ℤ) → clamped t (capped q) ≡ clamped t q
clamped-capped t q =
    let bounds = range_bounds t in
    let a = bounds.low in
    let b = bounds.high in
    let e = bounds.least in
    let f = bounds.greatest in
    clamped-capped_by (least_of t) (greatest_of t) q (omega (arith, ints, a)) (omega (arith, ints, e, f)) (omega (arith, ints, b))
