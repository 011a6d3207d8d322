-- Each rule of rounding has just one number, and it is the one that is computed.
use Rattle.std.proofs.Common.{◌≡◌, refl, sym, ◌∙◌, ap, subst, ℕ, zero, suc, ◌+◌, ◌-◌, ◌*◌, ◌%◌, ◌<◌, ◌≤◌, Bool, true, false, cond, ℤ, pos, negsuc, ◌+ℤ◌, ◌-ℤ◌, ◌*ℤ◌, ◌<ℤ◌, neg_ℤ, unsigned_abs, int_le, nat_lt, MatchBool, ◌⊎◌, inl, inr, ⊎_elim, arith, div-add-mod', mod-lt, suc-mul}
use Rattle.std.proofs.lemmas.Bool.{eqb-true, eqb-false, ltb-true, ltb-false}
use Rattle.std.proofs.lemmas.Int.{ints, by_lt_z}
use Rattle.std.specs.Int.{int_rem_euclid}
use borrow.Author.Differences.{up, down}
use Rattle.base_fixed_point.specs.declared.types.Round.TheVariants.{Ceiling, Convergent, Floor, Nearest, Zero}
use Rattle.base_fixed_point.specs.declared.types.Round.TheVariants as round
use Rattle.base_fixed_point.specs.Rounding.{IsFloor, IsCeiling, IsNearest, IsEven, IsConvergent, floor_div, ceiling_div, nearest, is_even, nearest_even, convergent, RoundingIsOne}

-- ---- Products with a positive number

pub sum_times : (a b : ℤ) (d : ℕ) → (a +ℤ b) *ℤ pos d ≡ (a *ℤ pos d) +ℤ (b *ℤ pos d)
sum_times a b d =
    let s : up (a +ℤ b) + down a + down b ≡ down (a +ℤ b) + up a + up b = omega (arith, ints) in
    let m = ap (λ x. x * d) s in
    omega (arith, ints)

pub next_times : (q : ℤ) (d : ℕ) → (q +ℤ pos 1) *ℤ pos d ≡ (q *ℤ pos d) +ℤ pos d
next_times q d = let s = sum_times q (pos 1) d in omega (arith, ints)

back_times : (q : ℤ) (d : ℕ) → (q -ℤ pos 1) *ℤ pos d ≡ (q *ℤ pos d) -ℤ pos d
back_times q d = let s = sum_times q (negsuc 0) d in omega (arith, ints)

pub twice_times : (q : ℤ) (d : ℕ) → (pos 2 *ℤ q) *ℤ pos d ≡ pos 2 *ℤ (q *ℤ pos d)
twice_times q d =
    let s : up (pos 2 *ℤ q) + 2 * down q ≡ down (pos 2 *ℤ q) + 2 * up q = omega (arith, ints) in
    let m = ap (λ x. x * d) s in
    omega (arith, ints)

neg_times : (q : ℤ) (d : ℕ) → neg_ℤ q *ℤ pos d ≡ neg_ℤ (q *ℤ pos d)
neg_times q d =
    let s : up (neg_ℤ q) ≡ down q = omega (arith, ints) in
    let t : down (neg_ℤ q) ≡ up q = omega (arith, ints) in
    let m = ap (λ x. x * d) s in
    let n = ap (λ x. x * d) t in
    omega (arith, ints)

-- q' is q, above it or below it
abbrev Apart : ℤ → ℤ → Type 0
Apart q r = (q ≡ r) ⊎ (((k : ℕ) × (r ≡ (q +ℤ pos 1) +ℤ pos k)) ⊎ ((k : ℕ) × (q ≡ (r +ℤ pos 1) +ℤ pos k)))

apart : (q r : ℤ) → Apart q r
apart q r = by_lt_z q r (λ h. inr (inl (up r + down q - up q - down r - 1, omega (arith, ints, h))))
    (λ h. by_lt_z r q (λ g. inr (inr (up q + down r - up r - down q - 1, omega (arith, ints, g)))) (λ g. inl (omega (arith, ints, h, g))))

above_times : (q r : ℤ) (k d : ℕ) → r ≡ (q +ℤ pos 1) +ℤ pos k → r *ℤ pos d ≡ ((q *ℤ pos d) +ℤ pos d) +ℤ pos (k * d)
above_times q r k d e =
    let m = ap (λ x. x *ℤ pos d) e in
    let s = sum_times (q +ℤ pos 1) (pos k) d in
    let t = next_times q d in
    omega (arith, ints, m, s, t)

-- multiples of d less than d apart are of one number
pub close : (q r : ℤ) (d : ℕ) → (q *ℤ pos d) <ℤ ((r *ℤ pos d) +ℤ pos d) → (r *ℤ pos d) <ℤ ((q *ℤ pos d) +ℤ pos d) → q ≡ r
close q r d h g = ⊎_elim (λ e. e) (λ s. ⊎_elim
    (λ a. absurd (let t = above_times q r a.0 d a.1 in omega (arith, ints, t, g)))
    (λ b. absurd (let t = above_times r q b.0 d b.1 in omega (arith, ints, t, h))) s) (apart q r)

-- ---- Down

pub floor_split : (n : ℤ) (d : ℕ) → 1 ≤ d → (r : ℕ) × (r < d) × (n ≡ (floor_div n d *ℤ pos d) +ℤ pos r)
floor_split (pos n) d h = (n % d, mod-lt n h, let s = div-add-mod' n d in omega (arith, ints, s))
floor_split (negsuc n) d h =
    let s = div-add-mod' n d in
    let l = mod-lt n h in
    (d - 1 - n % d, omega (arith, l, h), omega (arith, ints, s, l, h))

floor_is : (n : ℤ) (d : ℕ) → 1 ≤ d → IsFloor n d (floor_div n d)
floor_is n d h =
    let s = floor_split n d h in
    let l = s.1 in
    let e = s.2 in
    let t = next_times (floor_div n d) d in
    (omega (arith, ints, e), omega (arith, ints, e, l, t))

floor_one : (n : ℤ) (d : ℕ) (q r : ℤ) → IsFloor n d q → IsFloor n d r → q ≡ r
floor_one n d q r a b =
    let s = next_times q d in
    let t = next_times r d in
    let a0 = a.0 in
    let a1 = a.1 in
    let b0 = b.0 in
    let b1 = b.1 in
    close q r d (omega (arith, ints, t, a0, b1)) (omega (arith, ints, s, b0, a1))

-- ---- Up

ceiling_is : (n : ℤ) (d : ℕ) → 1 ≤ d → IsCeiling n d (ceiling_div n d)
ceiling_is n d h =
    let f = floor_div (neg_ℤ n) d in
    let s = floor_split (neg_ℤ n) d h in
    let l = s.1 in
    let e = s.2 in
    let m = neg_times f d in
    let t = back_times (neg_ℤ f) d in
    (omega (arith, ints, e, l, m, t), omega (arith, ints, e, m))

ceiling_one : (n : ℤ) (d : ℕ) (q r : ℤ) → IsCeiling n d q → IsCeiling n d r → q ≡ r
ceiling_one n d q r a b =
    let s = back_times q d in
    let t = back_times r d in
    let a0 = a.0 in
    let a1 = a.1 in
    let b0 = b.0 in
    let b1 = b.1 in
    close q r d (omega (arith, ints, s, a0, b1)) (omega (arith, ints, t, b0, a1))

-- ---- To the nearest, ties up

times_twice : (q : ℤ) (d : ℕ) → q *ℤ pos (2 * d) ≡ pos 2 *ℤ (q *ℤ pos d)
times_twice q d = omega (arith, ints, ap (λ x. x * up q) (two_is d), ap (λ x. x * down q) (two_is d))
  where
    two_is : (d : ℕ) → 2 * d ≡ d + d
    two_is d = omega arith

pub nearest_is : (n : ℤ) (d : ℕ) → 1 ≤ d → IsNearest n d (nearest n d)
nearest_is n d h =
    let q = nearest n d in
    let s = floor_split ((pos 2 *ℤ n) +ℤ pos d) (2 * d) (omega (arith, h)) in
    let l = s.1 in
    let e = s.2 in
    let m = times_twice q d in
    let a = twice_times q d in
    let b = twice_times (q +ℤ pos 1) d in
    let c = next_times q d in
    (omega (arith, ints, e, m, a), omega (arith, ints, e, l, m, b, c))

pub nearest_one : (n : ℤ) (d : ℕ) (q r : ℤ) → IsNearest n d q → IsNearest n d r → q ≡ r
nearest_one n d q r a b =
    let s = twice_times q d in
    let s' = twice_times (q +ℤ pos 1) d in
    let s'' = next_times q d in
    let t = twice_times r d in
    let t' = twice_times (r +ℤ pos 1) d in
    let t'' = next_times r d in
    let a0 = a.0 in
    let a1 = a.1 in
    let b0 = b.0 in
    let b1 = b.1 in
    close q r d (omega (arith, ints, s, t', t'', a0, b1)) (omega (arith, ints, t, s', s'', b0, a1))

-- ---- To the nearest, ties to even

-- how far twice n is from twice q times d
abbrev distance : ℤ → ℕ → ℤ → ℕ
distance n d q = unsigned_abs ((pos 2 *ℤ n) -ℤ ((pos 2 *ℤ q) *ℤ pos d))

distance_here : (n q : ℤ) (r d : ℕ) → n ≡ (q *ℤ pos d) +ℤ pos r → distance n d q ≡ 2 * r
distance_here n q r d e = let t = twice_times q d in omega (arith, ints, e, t)

distance_next : (n q : ℤ) (r d : ℕ) → r < d → n ≡ (q *ℤ pos d) +ℤ pos r → distance n d (q +ℤ pos 1) + 2 * r ≡ 2 * d
distance_next n q r d l e =
    let t = twice_times (q +ℤ pos 1) d in
    let s = next_times q d in
    omega (arith, ints, e, l, t, s)

even_next : (q : ℤ) → is_even q ≡ false → IsEven (q +ℤ pos 1)
even_next q e = by_sign q (eqb-false (unsigned_abs q % 2) 0 e)
  where
    by_sign : (z : ℤ) → ¬ (unsigned_abs z % 2 ≡ 0) → unsigned_abs (z +ℤ pos 1) % 2 ≡ 0
    by_sign (pos n) f = omega (arith, f)
    by_sign (negsuc n) f = step n f
      where
        step : (n : ℕ) → ¬ (suc n % 2 ≡ 0) → unsigned_abs (negsuc n +ℤ pos 1) % 2 ≡ 0
        step n f = let s : unsigned_abs (negsuc n +ℤ pos 1) ≡ n = omega (arith, ints) in omega (arith, s, f)

nearest_even_is : (n q : ℤ) (r d : ℕ) → r < d → n ≡ (q *ℤ pos d) +ℤ pos r → IsConvergent n d (nearest_even q (2 * r) d)
nearest_even_is n q r d l e = below (nat_lt (2 * r) d) refl
  where
    here : distance n d q ≡ 2 * r
    here = distance_here n q r d e

    next : distance n d (q +ℤ pos 1) + 2 * r ≡ 2 * d
    next = distance_next n q r d l e

    even : (t : Bool) → is_even q ≡ t → 2 * r ≡ d → IsConvergent n d (cond t q (q +ℤ pos 1))
    even true f g = (omega (arith, here, g), λ _. eqb-true (unsigned_abs q % 2) 0 f)
    even false f g = (omega (arith, next, g), λ _. even_next q f)

    above : (t : Bool) → nat_lt d (2 * r) ≡ t → d ≤ 2 * r → IsConvergent n d (cond t (q +ℤ pos 1) (cond (is_even q) q (q +ℤ pos 1)))
    above true f g = let h = ltb-true d (2 * r) f in (omega (arith, next, h), λ k. absurd (omega (arith, next, h, k)))
    above false f g = even (is_even q) refl (omega (arith, g, ltb-false d (2 * r) f))

    below : (t : Bool) → nat_lt (2 * r) d ≡ t →
        IsConvergent n d (cond t q (cond (nat_lt d (2 * r)) (q +ℤ pos 1) (cond (is_even q) q (q +ℤ pos 1))))
    below true f = let h = ltb-true (2 * r) d f in (omega (arith, here, h), λ k. absurd (omega (arith, here, h, k)))
    below false f = above (nat_lt d (2 * r)) refl (ltb-false (2 * r) d f)

convergent_is : (n : ℤ) (d : ℕ) → 1 ≤ d → IsConvergent n d (convergent n d)
convergent_is n d h =
    let s = floor_split n d h in
    let e = s.2 in
    let q = floor_div n d in
    let rest : unsigned_abs (n -ℤ (q *ℤ pos d)) ≡ s.0 = omega (arith, ints, e) in
    subst (λ x. IsConvergent n d (nearest_even q (2 * x) d)) (sym rest) (nearest_even_is n q s.0 d s.1 e)

-- the rest of a division by a positive number
pub rem_split : (n : ℤ) (d : ℕ) → 1 ≤ d → (r : ℕ) × (r < d) × (n ≡ (floor_div n d *ℤ pos d) +ℤ pos r) × (int_rem_euclid n (pos d) ≡ pos r)
rem_split (pos n) d h = (n % d, mod-lt n h, (let s = div-add-mod' n d in omega (arith, ints, s)), refl)
rem_split (negsuc n) d h =
    let s = div-add-mod' n d in
    let l = mod-lt n h in
    (d - 1 - n % d, omega (arith, l, h), omega (arith, ints, s, l, h), refl)

-- the same number from a quotient and its rest
pub convergent_from : (n q r : ℤ) (d : ℕ) → 1 ≤ d → q ≡ floor_div n d → r ≡ int_rem_euclid n (pos d) →
    nearest_even q (2 * unsigned_abs r) d ≡ convergent n d
convergent_from n q r d h e f =
    let s = rem_split n d h in
    let split = s.2 in
    let rest : unsigned_abs (n -ℤ (floor_div n d *ℤ pos d)) ≡ s.0 = omega (arith, ints, split) in
    let size : unsigned_abs r ≡ unsigned_abs (n -ℤ (floor_div n d *ℤ pos d)) = ap unsigned_abs (f ∙ s.3) ∙ sym rest in
    ap (λ k. nearest_even k (2 * unsigned_abs r) d) e ∙ ap (λ k. nearest_even (floor_div n d) (2 * k) d) size

-- two numbers of one distance, the upper of them odd, are none that are both even
convergent_above : (n : ℤ) (d : ℕ) (q r : ℤ) (k : ℕ) → 1 ≤ d → IsConvergent n d q → IsConvergent n d r → r ≡ (q +ℤ pos 1) +ℤ pos k → ⊥
convergent_above n d q r k h a b e =
    let t = above_times q r k d e in
    let s = twice_times q d in
    let u = twice_times r d in
    let a0 = a.0 in
    let b0 = b.0 in
    let none : k * d ≡ 0 = omega (arith, ints, t, s, u, a0, b0) in
    let near : distance n d q ≡ d = omega (arith, ints, t, s, u, a0, b0) in
    let far : distance n d r ≡ d = omega (arith, ints, t, s, u, a0, b0) in
    let no : k ≡ 0 = zero_factor k none in
    let next : r ≡ q +ℤ pos 1 = omega (arith, ints, e, no) in
    both_even q (a.1 near) (subst IsEven next (b.1 far))
  where
    zero_factor : (k : ℕ) → k * d ≡ 0 → k ≡ 0
    zero_factor zero e = refl
    zero_factor (suc k) e = absurd (omega (arith, e, suc-mul k d, h))

    both_even : (z : ℤ) → unsigned_abs z % 2 ≡ 0 → unsigned_abs (z +ℤ pos 1) % 2 ≡ 0 → ⊥
    both_even (pos n) f g = omega (arith, f, g)
    both_even (negsuc n) f g = let s : unsigned_abs (negsuc n +ℤ pos 1) ≡ n = omega (arith, ints) in omega (arith, s, f, g)

convergent_one : (n : ℤ) (d : ℕ) (q r : ℤ) → 1 ≤ d → IsConvergent n d q → IsConvergent n d r → q ≡ r
convergent_one n d q r h a b = ⊎_elim (λ e. e) (λ s. ⊎_elim
    (λ x. absurd (convergent_above n d q r x.0 h a b x.1))
    (λ y. absurd (convergent_above n d r q y.0 h b a y.1)) s) (apart q r)

-- ---- All rules

pub rounding_is_one : RoundingIsOne
rounding_is_one Floor n d h = (floor_is n d h, λ q a. floor_one n d q (floor_div n d) a (floor_is n d h))
rounding_is_one Ceiling n d h = (ceiling_is n d h, λ q a. ceiling_one n d q (ceiling_div n d) a (ceiling_is n d h))
rounding_is_one Nearest n d h = (nearest_is n d h, λ q a. nearest_one n d q (nearest n d) a (nearest_is n d h))
rounding_is_one Convergent n d h = (convergent_is n d h, λ q a. convergent_one n d q (convergent n d) h a (convergent_is n d h))
rounding_is_one Zero n d h = by_sign (int_le (pos 0) n)
  where
    by_sign : (t : Bool) →
        MatchBool t (IsFloor n d (cond t (floor_div n d) (ceiling_div n d)))
        (IsCeiling n d (cond t (floor_div n d) (ceiling_div n d)))
        × ((q : ℤ) → MatchBool t (IsFloor n d q) (IsCeiling n d q) → q ≡ cond t (floor_div n d) (ceiling_div n d))
    by_sign true = (floor_is n d h, λ q a. floor_one n d q (floor_div n d) a (floor_is n d h))
    by_sign false = (ceiling_is n d h, λ q a. ceiling_one n d q (ceiling_div n d) a (ceiling_is n d h))
rounding_is_one round.Round n d h = by_sign (int_le (pos 0) n)
  where
    up_is : IsNearest n d (nearest n d)
    up_is = nearest_is n d h

    down_is : IsNearest (neg_ℤ n) d (nearest (neg_ℤ n) d)
    down_is = nearest_is (neg_ℤ n) d h

    by_sign : (t : Bool) → MatchBool t (IsNearest n d (cond t (nearest n d) (neg_ℤ (nearest (neg_ℤ n) d))))
        (IsNearest (neg_ℤ n) d (neg_ℤ (cond t (nearest n d) (neg_ℤ (nearest (neg_ℤ n) d)))))
        × ((q : ℤ) → MatchBool t (IsNearest n d q) (IsNearest (neg_ℤ n) d (neg_ℤ q)) →
        q ≡ cond t (nearest n d) (neg_ℤ (nearest (neg_ℤ n) d)))
    by_sign true = (up_is, λ q a. nearest_one n d q (nearest n d) a up_is)
    by_sign false = (
      let back : nearest (neg_ℤ n) d ≡ neg_ℤ (neg_ℤ (nearest (neg_ℤ n) d)) =
          omega (arith, ints) in subst (IsNearest (neg_ℤ n) d) back down_is,
      λ q a. let e = nearest_one (neg_ℤ n) d (neg_ℤ q) (nearest (neg_ℤ n) d) a down_is in omega (arith, ints, e),
    )
