-- The quotient toward zero and its rest, and the other roundings made from them.
use Rattle.std.proofs.Common.{◌≡◌, refl, sym, ap, ◌∙◌, ℕ, zero, suc, ◌+◌, ◌*◌, ◌/◌, ◌%◌, ◌<◌, ◌≤◌, Bool, true, false, ◌&&◌, ◌||◌, not, cond, ℤ, pos, negsuc, ◌+ℤ◌, ◌-ℤ◌, ◌*ℤ◌, ◌≤ℤ◌, ◌<ℤ◌, neg_ℤ, unsigned_abs, int_le, int_lt, MatchBool, ◌⊎◌, inl, inr, subst, arith, true≢false}
use Rattle.std.specs.Ordering.{int_eq}
use Rattle.std.specs.Prelude.{int_div, int_rem}
use Rattle.std.proofs.lemmas.Int.{ints, quot-rem, rem_below, by_lt_z}
use Rattle.std.proofs.lemmas.Bool.Decides.{nat_tests, Decides-int_eq}
use Rattle.std.proofs.Math.Nat.{div-mul-le_self, mul-le-mul_right, mul_comm}
use borrow.Author.Differences.{up, down}
use Rattle.base_fixed_point.specs.declared.Round.{Round}
use Rattle.base_fixed_point.specs.declared.Round.TheVariants.{Ceiling, Convergent, Floor, Nearest, Zero}
use Rattle.base_fixed_point.specs.declared.Round.TheVariants as round
use Rattle.base_fixed_point.specs.Rounding.{IsFloor, IsCeiling, IsNearest, IsEven, IsConvergent, IsRounded, rounded}
use Rattle.base_fixed_point.proofs.lemmas.RoundingLaws.{sum_times, rounding_is_one}

-- ---- Products

pub one_more : (q : ℤ) (d : ℕ) → (q +ℤ pos 1) *ℤ pos d ≡ (q *ℤ pos d) +ℤ pos d
one_more q d = let s = sum_times q (pos 1) d in omega (arith, ints)

pub one_less : (q : ℤ) (d : ℕ) → (q -ℤ pos 1) *ℤ pos d ≡ (q *ℤ pos d) -ℤ pos d
one_less q d = let s = sum_times q (negsuc 0) d in omega (arith, ints)

-- ---- A division

-- q and r are quotient and rest of v by d, with the sign of v
pub record Divides (v : ℤ) (d : ℕ) (q r : ℤ) : Type 0 where
  pub split : v ≡ (q *ℤ pos d) +ℤ r
  pub small : unsigned_abs r < d
  pub upper : pos 0 ≤ℤ v → (pos 0 ≤ℤ r) × (pos 0 ≤ℤ q)
  pub lower : v <ℤ pos 0 → (r ≤ℤ pos 0) × (q ≤ℤ pos 0)

pub divides : (v : ℤ) (d : ℕ) → 1 ≤ d → Divides v d (int_div v (pos d)) (int_rem v (pos d))
divides (pos n) d h = record {
  split = sym (quot-rem (pos n) (pos d));
  small = rem_below (pos n) (pos d) (omega (arith, h));
  upper = λ p. (omega (arith, ints), omega (arith, ints));
  lower = λ p. absurd (omega (arith, ints, p));
}
divides (negsuc n) d h = record {
  split = sym (quot-rem (negsuc n) (pos d));
  small = rem_below (negsuc n) (pos d) (omega (arith, h));
  upper = λ p. absurd (omega (arith, ints, p));
  lower = λ p. (omega (arith, ints), omega (arith, ints));
}

-- ---- The six rules, by the rest; h is half the divisor

module _ (v : ℤ) (d : ℕ) (q r : ℤ) (s : Divides v d q r) where
  floor_by : (b : Bool) → int_lt r (pos 0) ≡ b → IsFloor v d (cond b (q -ℤ pos 1) q)
  floor_by true e =
      let less = one_less q d in
      let back = one_more (q -ℤ pos 1) d in
      let split = s.split in
      let small = s.small in
      (omega (arith, ints, split, less, small, e), omega (arith, ints, split, less, back, small, e))
  floor_by false e =
      let more = one_more q d in
      let split = s.split in
      let small = s.small in
      (omega (arith, ints, split, small, e), omega (arith, ints, split, more, small, e))

  ceiling_by : (b : Bool) → int_lt (pos 0) r ≡ b → IsCeiling v d (cond b (q +ℤ pos 1) q)
  ceiling_by true e =
      let more = one_more q d in
      let back = one_less (q +ℤ pos 1) d in
      let split = s.split in
      let small = s.small in
      (omega (arith, ints, split, more, back, small, e), omega (arith, ints, split, more, small, e))
  ceiling_by false e =
      let less = one_less q d in
      let split = s.split in
      let small = s.small in
      (omega (arith, ints, split, less, small, e), omega (arith, ints, split, small, e))

  zero_by : (b : Bool) → int_le (pos 0) v ≡ b → MatchBool b (IsFloor v d q) (IsCeiling v d q)
  zero_by true e =
      let up = s.upper (omega (arith, ints, e)) in
      let more = one_more q d in
      let split = s.split in
      let small = s.small in
      let r0 = up.0 in
      (omega (arith, ints, split, r0), omega (arith, ints, split, more, small, r0))
  zero_by false e =
      let down = s.lower (omega (arith, ints, e)) in
      let less = one_less q d in
      let split = s.split in
      let small = s.small in
      let r0 = down.0 in
      (omega (arith, ints, split, less, small, r0), omega (arith, ints, split, r0))

twice : (x : ℤ) (d : ℕ) → (pos 2 *ℤ x) *ℤ pos d ≡ pos 2 *ℤ (x *ℤ pos d)
twice x d =
    let s : up (pos 2 *ℤ x) + 2 * down x ≡ down (pos 2 *ℤ x) + 2 * up x = omega (arith, ints) in
    let m = ap (λ y. y * d) s in
    omega (arith, ints)

negated : (x : ℤ) (d : ℕ) → neg_ℤ x *ℤ pos d ≡ neg_ℤ (x *ℤ pos d)
negated x d =
    let s : up (neg_ℤ x) ≡ down x = omega (arith, ints) in
    let t : down (neg_ℤ x) ≡ up x = omega (arith, ints) in
    let m = ap (λ y. y * d) s in
    let n = ap (λ y. y * d) t in
    omega (arith, ints)

-- x is nearest, by its product with the divisor
nearest_from : (v x : ℤ) (d : ℕ) → (pos 2 *ℤ (x *ℤ pos d)) ≤ℤ ((pos 2 *ℤ v) +ℤ pos d) →
    ((pos 2 *ℤ v) +ℤ pos d) <ℤ (pos 2 *ℤ ((x *ℤ pos d) +ℤ pos d)) → IsNearest v d x
nearest_from v x d low high =
    let t = twice x d in
    let u = twice (x +ℤ pos 1) d in
    let m = one_more x d in
    (omega (arith, ints, t, low), omega (arith, ints, u, m, high))

module _ (v : ℤ) (d h : ℕ) (q r : ℤ) (s : Divides v d q r) (even : d ≡ h + h) where
  nearest_by : (up_test down_test : Bool) → int_le (pos h) r ≡ up_test → int_lt r (neg_ℤ (pos h)) ≡ down_test →
      IsNearest v d (cond up_test (q +ℤ pos 1) (cond down_test (q -ℤ pos 1) q))
  nearest_by true b e f =
      let more = one_more q d in
      let split = s.split in
      let small = s.small in
      nearest_from v (q +ℤ pos 1) d (omega (arith, ints, split, more, small, even, e)) (omega (arith, ints, split, more, small, even, e))
  nearest_by false true e f =
      let less = one_less q d in
      let split = s.split in
      let small = s.small in
      nearest_from v (q -ℤ pos 1) d (omega (arith, ints, split, less, small, even, f)) (omega (arith, ints, split, less, small, even, f))
  nearest_by false false e f =
      let split = s.split in
      let small = s.small in
      nearest_from v q d (omega (arith, ints, split, small, even, e, f)) (omega (arith, ints, split, small, even, e, f))

  away_by : (up_test down_test sign : Bool) → 1 ≤ h → int_le (pos h) r ≡ up_test →
      int_le r (neg_ℤ (pos h)) ≡ down_test → int_le (pos 0) v ≡ sign →
      (let x = cond up_test (q +ℤ pos 1) (cond down_test (q -ℤ pos 1) q) in
      MatchBool sign (IsNearest v d x) (IsNearest (neg_ℤ v) d (neg_ℤ x)))
  away_by true b true some e f g = nearest_by true (int_lt r (neg_ℤ (pos h))) e refl
  away_by true b false some e f g =
      absurd (let down = s.lower (omega (arith, ints, g)) in let r0 = down.0 in omega (arith, ints, r0, e, some))
  away_by false true true some e f g =
      absurd (let up = s.upper (omega (arith, ints, g)) in let r0 = up.0 in omega (arith, ints, r0, f, some))
  away_by false true false some e f g =
      let less = one_less q d in
      let turned = negated (q -ℤ pos 1) d in
      let split = s.split in
      let small = s.small in
      nearest_from (neg_ℤ v) (neg_ℤ (q -ℤ pos 1)) d (omega (arith, ints, split, less, turned, small, even, f))
      (omega (arith, ints, split, less, turned, small, even, f))
  away_by false false true some e f g = nearest_by false false e (not_below (int_lt r (neg_ℤ (pos h))) refl)
    where
      not_below : (b : Bool) → int_lt r (neg_ℤ (pos h)) ≡ b → b ≡ false
      not_below false n = refl
      not_below true n = absurd (omega (arith, ints, f, n))
  away_by false false false some e f g =
      let turned = negated q d in
      let split = s.split in
      let small = s.small in
      nearest_from (neg_ℤ v) (neg_ℤ q) d (omega (arith, ints, split, turned, small, even, e, f))
      (omega (arith, ints, split, turned, small, even, e, f))

-- ---- To the even one of two

-- whether a number is odd
abbrev pub is_odd : ℤ → Bool
is_odd q = not (int_eq (int_rem q (pos 2)) (pos 0))

pub record Parity (q : ℤ) (odd : Bool) : Type 0 where
  pub even_here : odd ≡ false → IsEven q
  pub even_above : odd ≡ true → IsEven (q +ℤ pos 1)
  pub even_below : odd ≡ true → IsEven (q -ℤ pos 1)

zero_from : (m : ℕ) → not (int_eq (pos m) (pos 0)) ≡ false → m ≡ 0
zero_from m e = grind (arith, ints, nat_tests)

some_from : (m : ℕ) → not (int_eq (pos m) (pos 0)) ≡ true → 1 ≤ m
some_from m e = grind (arith, ints, nat_tests)

zero_below : (m : ℕ) → not (int_eq (neg_ℤ (pos m)) (pos 0)) ≡ false → m ≡ 0
zero_below zero e = refl
zero_below (suc m) e = absurd (true≢false e)

some_below : (m : ℕ) → not (int_eq (neg_ℤ (pos m)) (pos 0)) ≡ true → 1 ≤ m
some_below zero e = absurd (true≢false (sym e))
some_below (suc m) e = omega arith

-- beside an odd number are even ones
beside_above : (a b : ℕ) → b ≡ a + 1 → 1 ≤ a % 2 → b % 2 ≡ 0
beside_above a b e h = omega (arith, e, h)

beside_below : (a b : ℕ) → b ≡ a + 1 → 1 ≤ b % 2 → a % 2 ≡ 0
beside_below a b e h = omega (arith, e, h)

parity : (q : ℤ) → Parity q (is_odd q)
parity (pos zero) =
    record {
      even_here = λ e. refl;
      even_above = λ e. absurd (true≢false (sym e));
      even_below = λ e. absurd (true≢false (sym e));
    }
parity (pos (suc n)) = record {
  even_here = λ e. zero_from (suc n % 2) e;
  even_above = λ e. beside_above (suc n) (suc n + 1) refl (some_from (suc n % 2) e);
  even_below = λ e.
      let less : unsigned_abs (pos (suc n) -ℤ pos 1) ≡ n = omega (arith, ints) in
      subst (λ k. k % 2 ≡ 0) (sym less) (beside_below n (suc n) (omega arith) (some_from (suc n % 2) e));
}
parity (negsuc n) = record {
  even_here = λ e. zero_below (suc n % 2) e;
  even_above = λ e.
      let less : unsigned_abs (negsuc n +ℤ pos 1) ≡ n = omega (arith, ints) in
      subst (λ k. k % 2 ≡ 0) (sym less) (beside_below n (suc n) (omega arith) (some_below (suc n % 2) e));
  even_below = λ e.
      let more : unsigned_abs (negsuc n -ℤ pos 1) ≡ suc n + 1 = omega (arith, ints) in
      subst (λ k. k % 2 ≡ 0) (sym more) (beside_above (suc n) (suc n + 1) refl (some_below (suc n % 2) e));
}

-- twice the distance of v / d and x is that of twice v and twice the product
distance_is : (v x : ℤ) (d : ℕ) →
    unsigned_abs ((pos 2 *ℤ v) -ℤ ((pos 2 *ℤ x) *ℤ pos d)) ≡ unsigned_abs ((pos 2 *ℤ v) -ℤ (pos 2 *ℤ (x *ℤ pos d)))
distance_is v x d = ap (λ y. unsigned_abs ((pos 2 *ℤ v) -ℤ y)) (twice x d)

-- x is convergent, by its product with the divisor
convergent_from : (v x : ℤ) (d : ℕ) → (let distance = unsigned_abs ((pos 2 *ℤ v) -ℤ (pos 2 *ℤ (x *ℤ pos d))) in
    (distance ≤ d) × (distance ≡ d → IsEven x)) → IsConvergent v d x
convergent_from v x d h = (omega (arith, distance_is v x d, h.0), λ e. h.1 (sym (distance_is v x d) ∙ e))

either_cases : (a b : Bool) → (a || b) ≡ true → (a ≡ true) ⊎ (b ≡ true)
either_cases true b e = inl refl
either_cases false b e = inr e

neither : (a b : Bool) → (a || b) ≡ false → (a ≡ false) × (b ≡ false)
neither true b e = absurd (true≢false e)
neither false b e = (refl, e)

both_hold : (a b : Bool) → (a && b) ≡ true → (a ≡ true) × (b ≡ true)
both_hold true b e = (refl, e)
both_hold false b e = absurd (true≢false (sym e))

equal_from : (x y : ℤ) → int_eq x y ≡ true → x ≡ y
equal_from x y e = grind (arith, ints)

-- where the first holds, the second doesn't
not_both : (a b : Bool) → (a && b) ≡ false → a ≡ true → b ≡ false
not_both true b e h = e
not_both false b e h = absurd (true≢false (sym h))

module _ (v : ℤ) (d h : ℕ) (q r : ℤ) (s : Divides v d q r) (even : d ≡ h + h) where
  abbrev odd : Bool
  odd = is_odd q

  -- far above the quotient, or half way and the quotient is odd; and so below
  abbrev pub goes_up : Bool
  goes_up = int_lt (pos h) r || (int_eq r (pos h) && odd)

  abbrev pub goes_down : Bool
  goes_down = int_lt r (neg_ℤ (pos h)) || (int_eq r (neg_ℤ (pos h)) && odd)

  -- x is convergent where twice the rest and the distance of x from the quotient are near enough
  abbrev Near : ℤ → Type 0
  Near x = let distance = unsigned_abs ((pos 2 *ℤ v) -ℤ (pos 2 *ℤ (x *ℤ pos d))) in (distance ≤ d) × (distance ≡ d → IsEven x)

  above_even : (int_lt (pos h) r ≡ true) ⊎ ((int_eq r (pos h) && odd) ≡ true) → Near (q +ℤ pos 1)
  above_even (inl far) =
      let more = one_more q d in
      let split = s.split in
      let small = s.small in
      (omega (arith, ints, split, more, small, even, far), λ g. absurd (omega (arith, ints, split, more, small, even, far, g)))
  above_even (inr tie) =
      let both = both_hold (int_eq r (pos h)) odd tie in
      let at = equal_from r (pos h) both.0 in
      let more = one_more q d in
      let split = s.split in
      let small = s.small in
      (omega (arith, ints, split, more, small, even, at), λ g. (parity q).even_above both.1)

  below_even : (int_lt r (neg_ℤ (pos h)) ≡ true) ⊎ ((int_eq r (neg_ℤ (pos h)) && odd) ≡ true) → Near (q -ℤ pos 1)
  below_even (inl far) =
      let less = one_less q d in
      let split = s.split in
      let small = s.small in
      (omega (arith, ints, split, less, small, even, far), λ g. absurd (omega (arith, ints, split, less, small, even, far, g)))
  below_even (inr tie) =
      let both = both_hold (int_eq r (neg_ℤ (pos h))) odd tie in
      let at = equal_from r (neg_ℤ (pos h)) both.0 in
      let less = one_less q d in
      let split = s.split in
      let small = s.small in
      (omega (arith, ints, split, less, small, even, at), λ g. (parity q).even_below both.1)

  stays_even : (int_lt (pos h) r ≡ false) × ((int_eq r (pos h) && odd) ≡ false) →
      (int_lt r (neg_ℤ (pos h)) ≡ false) × ((int_eq r (neg_ℤ (pos h)) && odd) ≡ false) → Near q
  stays_even (up_to, no_tie) (down_to, no_tie_below) =
      let split = s.split in
      let small = s.small in
      (omega (arith, ints, split, small, even, up_to, down_to), λ g. (parity q).even_here (at_tie g))
    where
      at_tie : (let distance = unsigned_abs ((pos 2 *ℤ v) -ℤ (pos 2 *ℤ (q *ℤ pos d))) in distance ≡ d) → odd ≡ false
      at_tie g = by_lt_z r (pos 0) below above
        where
          below : r <ℤ pos 0 → odd ≡ false
          below n =
              let split = s.split in
              let tie : r ≡ neg_ℤ (pos h) = omega (arith, ints, split, even, g, n) in
              not_both (int_eq r (neg_ℤ (pos h))) odd no_tie_below ((Decides-int_eq r (neg_ℤ (pos h))).1 tie)

          above : pos 0 ≤ℤ r → odd ≡ false
          above n =
              let split = s.split in
              let tie : r ≡ pos h = omega (arith, ints, split, even, g, n) in
              not_both (int_eq r (pos h)) odd no_tie ((Decides-int_eq r (pos h)).1 tie)

  convergent_by : (up_test down_test : Bool) → goes_up ≡ up_test → goes_down ≡ down_test →
      IsConvergent v d (cond up_test (q +ℤ pos 1) (cond down_test (q -ℤ pos 1) q))
  convergent_by true b e f = convergent_from v (q +ℤ pos 1) d (above_even (either_cases (int_lt (pos h) r) (int_eq r (pos h) && odd) e))
  convergent_by false true e f =
      convergent_from v (q -ℤ pos 1) d
      (below_even (either_cases (int_lt r (neg_ℤ (pos h))) (int_eq r (neg_ℤ (pos h)) && odd) f))
  convergent_by false false e f =
      convergent_from v q d
      (stays_even (neither (int_lt (pos h) r) (int_eq r (pos h) && odd) e)
      (neither (int_lt r (neg_ℤ (pos h))) (int_eq r (neg_ℤ (pos h)) && odd) f))

-- ---- All six

-- what each rule makes of quotient and rest, where h is half the divisor
abbrev pub by_rest : Round → (q r : ℤ) (h : ℕ) → ℤ
by_rest Floor q r h = cond (int_lt r (pos 0)) (q -ℤ pos 1) q
by_rest Ceiling q r h = cond (int_lt (pos 0) r) (q +ℤ pos 1) q
by_rest Zero q r h = q
by_rest Nearest q r h = cond (int_le (pos h) r) (q +ℤ pos 1) (cond (int_lt r (neg_ℤ (pos h))) (q -ℤ pos 1) q)
by_rest round.Round q r h = cond (int_le (pos h) r) (q +ℤ pos 1) (cond (int_le r (neg_ℤ (pos h))) (q -ℤ pos 1) q)
by_rest Convergent q r h =
    cond (int_lt (pos h) r || (int_eq r (pos h) && is_odd q)) (q +ℤ pos 1)
    (cond (int_lt r (neg_ℤ (pos h)) || (int_eq r (neg_ℤ (pos h)) && is_odd q)) (q -ℤ pos 1) q)

is_rounded : (rule : Round) (v : ℤ) (d h : ℕ) (q r : ℤ) → Divides v d q r → d ≡ h + h → 1 ≤ h → IsRounded rule v d (by_rest rule q r h)
is_rounded Floor v d h q r s even some = floor_by v d q r s (int_lt r (pos 0)) refl
is_rounded Ceiling v d h q r s even some = ceiling_by v d q r s (int_lt (pos 0) r) refl
is_rounded Zero v d h q r s even some = zero_by v d q r s (int_le (pos 0) v) refl
is_rounded Nearest v d h q r s even some = nearest_by v d h q r s even (int_le (pos h) r) (int_lt r (neg_ℤ (pos h))) refl refl
is_rounded round.Round v d h q r s even some =
    away_by v d h q r s even (int_le (pos h) r) (int_le r (neg_ℤ (pos h))) (int_le (pos 0) v) some refl refl refl
is_rounded Convergent v d h q r s even some =
    convergent_by v d h q r s even (goes_up v d h q r s even) (goes_down v d h q r s even) refl refl

-- by each rule a number is rounded to what quotient and rest make
pub by_rest_is : (rule : Round) (v : ℤ) (d h : ℕ) → d ≡ h + h → 1 ≤ h →
    by_rest rule (int_div v (pos d)) (int_rem v (pos d)) h ≡ rounded rule v d
by_rest_is rule v d h even some =
    let above : 1 ≤ d = omega (arith, even, some) in
    (rounding_is_one rule v d above).1 (by_rest rule (int_div v (pos d)) (int_rem v (pos d)) h)
    (is_rounded rule v d h (int_div v (pos d)) (int_rem v (pos d)) (divides v d above) even some)

half_of : (n d : ℕ) → 2 ≤ d → 2 * (n / d) ≤ n
half_of n d h = omega (arith, div-mul-le_self n d, mul-le-mul_right (n / d) h, mul_comm (n / d) d)

pub abs-neg : (n : ℕ) → unsigned_abs (neg_ℤ (pos n)) ≡ n
abs-neg n = omega (arith, ints)

-- the quotient has at most half the magnitude
pub quotient-le : (v : ℤ) (d h : ℕ) → d ≡ h + h → 1 ≤ h → 2 * unsigned_abs (int_div v (pos d)) ≤ unsigned_abs v
quotient-le (pos n) d h even some = half_of n d (omega (arith, even, some))
quotient-le (negsuc n) d h even some = omega (arith, ints, abs-neg (suc n / d), half_of (suc n) d (omega (arith, even, some)))
