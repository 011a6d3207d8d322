-- Where the items of a list are of which some are kept.
use Rattle.std.specs.Prelude.{◌≡◌, ℕ, zero, suc, ◌+◌, ◌<◌, ◌≤◌, nat_lt, nat_le, Bool, true, false, List, [], ◌∷◌, ◌++◌, length, take, Some, slice_get, if◌then◌else◌}
use Rattle.std.proofs.Common.{refl, sym, ap, ◌∙◌, arith, ◌⊎◌, inl, inr}
use Rattle.std.proofs.lemmas.Bool.Decides.{nat_tests}
use Rattle.c_syntax.specs.Tree.{ProcedureTree}
use Rattle.emit_inlined.specs.Inlined.{kept_before, kept_from}

-- ---- The first items of a list

-- among the first j items is what is before the one at j
pub take-at : (xs : List ProcedureTree) (i j : ℕ) → i < j → slice_get (take j xs) i ≡ slice_get xs i
take-at [] i zero h = absurd (omega (arith, h))
take-at [] i (suc j) h = refl
take-at (x ∷ xs) i zero h = absurd (omega (arith, h))
take-at (x ∷ xs) zero (suc j) h = refl
take-at (x ∷ xs) (suc i) (suc j) h = take-at xs i j (omega (arith, h))

pub take-found : (xs : List ProcedureTree) (i j : ℕ) (x : ProcedureTree) → slice_get (take j xs) i ≡ Some x →
    (i < j) × (slice_get xs i ≡ Some x)
take-found [] i zero x there = absurd (let wrong : ⊥ = cc there in wrong)
take-found [] i (suc j) x there = absurd (let wrong : ⊥ = cc there in wrong)
take-found (y ∷ ys) i zero x there = absurd (let wrong : ⊥ = cc there in wrong)
take-found (y ∷ ys) zero (suc j) x there = (omega arith, there)
take-found (y ∷ ys) (suc i) (suc j) x there = let (below, found) = take-found ys i j x there in (omega (arith, below), found)

-- ---- Places

-- at most a position, or the next one
up-to : (k n : ℕ) → k ≤ suc n → (k ≤ n) ⊎ (k ≡ suc n)
up-to k n h = by (nat_le k n) refl
  where
    by : (b : Bool) → nat_le k n ≡ b → (k ≤ n) ⊎ (k ≡ suc n)
    by true e = inl (grind (arith, nat_tests))
    by false e = let past : n < k = grind (arith, nat_tests) in inr (omega (arith, past, h))

module _ (keeps : ℕ → Bool) where
  pub kept-next : (n : ℕ) → keeps n ≡ true → kept_before keeps (suc n) ≡ kept_before keeps n + 1
  kept-next n is = ap (λ b. kept_before keeps n + (if b then 1 else 0)) is

  pub dropped-next : (n : ℕ) → keeps n ≡ false → kept_before keeps (suc n) ≡ kept_before keeps n
  dropped-next n is = ap (λ b. kept_before keeps n + (if b then 1 else 0)) is ∙ omega arith

  -- no place is before that of an earlier position
  pub kept-at-most : (k n : ℕ) → k ≤ n → kept_before keeps k ≤ kept_before keeps n
  kept-at-most k zero h =
      let same : kept_before keeps k ≡ 0 = ap (kept_before keeps) (let e : k ≡ 0 = omega (arith, h) in e) in omega (arith, same)
  kept-at-most k (suc n) h = by (up-to k n h) (λ most. kept-at-most k n most)
    where
      grows : (m : ℕ) → kept_before keeps m ≤ kept_before keeps (suc m)
      grows m = omega arith

      by : (k ≤ n) ⊎ (k ≡ suc n) → (k ≤ n → kept_before keeps k ≤ kept_before keeps n) → kept_before keeps k ≤ kept_before keeps (suc n)
      by (inl most) next = let less = next most in let more = grows n in omega (arith, less, more)
      by (inr at) next = let same = ap (kept_before keeps) at in omega (arith, same)

  -- an item that is kept is before the place of each later position
  pub kept-below : (k n : ℕ) → k < n → keeps k ≡ true → kept_before keeps k < kept_before keeps n
  kept-below k n h is =
      let next = kept-next k is in let most = kept-at-most (suc k) n (omega (arith, h)) in omega (arith, next, most)

  -- what is placed before is before
  pub kept-order : (k n : ℕ) → kept_before keeps k < kept_before keeps n → k < n
  kept-order k n h = by (nat_lt k n) refl
    where
      by : (b : Bool) → nat_lt k n ≡ b → k < n
      by true e = grind (arith, nat_tests)
      by false e =
          let past : n ≤ k = grind (arith, nat_tests) in
          let most = kept-at-most n k past in absurd (omega (arith, most, h))

  -- ---- Items

  -- an item that is kept is at its place among those that are, from position n on
  kept-from-at : (xs : List ProcedureTree) (n k j : ℕ) (x : ProcedureTree) → slice_get xs k ≡ Some x → keeps (n + k) ≡ true →
      kept_before keeps n + j ≡ kept_before keeps (n + k) → slice_get (kept_from keeps n xs) j ≡ Some x
  kept-from-at [] n k j x there keep place = absurd (let wrong : ⊥ = cc there in wrong)
  kept-from-at (y ∷ xs) n zero j x there keep place =
      let same : n + 0 ≡ n = omega arith in
      let at = ap (kept_before keeps) same in
      let first : j ≡ 0 = omega (arith, place, at) in
      ap (λ b. slice_get ((if b then y ∷ [] else []) ++ kept_from keeps (suc n) xs) j) (sym (ap keeps same) ∙ keep)
      ∙ ap (slice_get (y ∷ kept_from keeps (suc n) xs)) first ∙ there
  kept-from-at (y ∷ xs) n (suc k) j x there keep place =
      by (keeps n) refl j place (λ i at. kept-from-at xs (suc n) k i x there (sym (ap keeps number) ∙ keep) at)
    where
      number : n + suc k ≡ suc n + k
      number = omega arith

      by : (b : Bool) → keeps n ≡ b → (i : ℕ) → kept_before keeps n + i ≡ kept_before keeps (n + suc k) →
          ((i : ℕ) → kept_before keeps (suc n) + i ≡ kept_before keeps (suc n + k) → slice_get (kept_from keeps (suc n) xs) i ≡ Some x) →
          slice_get ((if b then y ∷ [] else []) ++ kept_from keeps (suc n) xs) i ≡ Some x
      by true is zero at next =
          let less = kept-below n (n + suc k) (omega arith) is in absurd (omega (arith, less, at))
      by true is (suc i) at next =
          let one = kept-next n is in let same = ap (kept_before keeps) number in next i (omega (arith, at, one, same))
      by false is i at next =
          let one = dropped-next n is in let same = ap (kept_before keeps) number in next i (omega (arith, at, one, same))

  pub kept-at : (xs : List ProcedureTree) (k : ℕ) (x : ProcedureTree) → slice_get xs k ≡ Some x → keeps k ≡ true →
      slice_get (kept_from keeps 0 xs) (kept_before keeps k) ≡ Some x
  kept-at xs k x there keep =
      let same : 0 + k ≡ k = omega arith in
      kept-from-at xs 0 k (kept_before keeps k) x there (ap keeps same ∙ keep)
      (let at = ap (kept_before keeps) same in omega (arith, at))

  -- the position, from n on, of an item that is kept
  pub record IsKept (n j : ℕ) (xs : List ProcedureTree) (x : ProcedureTree) : Type 0 where
    pub position : ℕ
    pub kept : keeps (n + position) ≡ true
    pub place : kept_before keeps (n + position) ≡ kept_before keeps n + j
    pub there : slice_get xs position ≡ Some x

  -- each item among those that are kept is one of all
  kept-from-found : (xs : List ProcedureTree) (n j : ℕ) (x : ProcedureTree) → slice_get (kept_from keeps n xs) j ≡ Some x → IsKept n j xs x
  kept-from-found [] n j x there = absurd (let wrong : ⊥ = cc there in wrong)
  kept-from-found (y ∷ xs) n j x there = by (keeps n) refl j there (λ i h. kept-from-found xs (suc n) i x h)
    where
      later : (i m : ℕ) → kept_before keeps (suc n) + i ≡ kept_before keeps n + m → IsKept (suc n) i xs x → IsKept n m (y ∷ xs) x
      later i m number found =
          let same : n + suc found.position ≡ suc n + found.position = omega arith in record {
            position = suc found.position;
            kept = ap keeps same ∙ found.kept;
            place = ap (kept_before keeps) same ∙ found.place ∙ number;
            there = found.there;
          }

      by : (b : Bool) → keeps n ≡ b → (i : ℕ) → slice_get ((if b then y ∷ [] else []) ++ kept_from keeps (suc n) xs) i ≡ Some x →
          ((m : ℕ) → slice_get (kept_from keeps (suc n) xs) m ≡ Some x → IsKept (suc n) m xs x) → IsKept n i (y ∷ xs) x
      by true is zero h next =
          let same : n + 0 ≡ n = omega arith in
          record { position = 0; kept = ap keeps same ∙ is; place = ap (kept_before keeps) same ∙ omega arith; there = h }
      by true is (suc i) h next = let one = kept-next n is in later i (suc i) (omega (arith, one)) (next i h)
      by false is i h next = let one = dropped-next n is in later i i (omega (arith, one)) (next i h)

  -- the position of an item among those that are kept
  pub record HasPosition (j : ℕ) (xs : List ProcedureTree) (x : ProcedureTree) : Type 0 where
    pub position : ℕ
    pub kept : keeps position ≡ true
    pub place : kept_before keeps position ≡ j
    pub there : slice_get xs position ≡ Some x

  pub kept-found : (xs : List ProcedureTree) (j : ℕ) (x : ProcedureTree) → slice_get (kept_from keeps 0 xs) j ≡ Some x → HasPosition j xs x
  kept-found xs j x there =
      let found = kept-from-found xs 0 j x there in
      let same : found.position ≡ 0 + found.position = omega arith in record {
        position = found.position;
        kept = ap keeps same ∙ found.kept;
        place = ap (kept_before keeps) same ∙ found.place ∙ omega arith;
        there = found.there;
      }

  -- past the end of the list there are no more
  kept-from-length : (xs : List ProcedureTree) (n : ℕ) →
      length (kept_from keeps n xs) + kept_before keeps n ≡ kept_before keeps (n + length xs)
  kept-from-length [] n = let same = ap (kept_before keeps) (let e : n + 0 ≡ n = omega arith in e) in omega (arith, same)
  kept-from-length (x ∷ xs) n = by (keeps n) refl (kept-from-length xs (suc n))
    where
      same : kept_before keeps (n + suc (length xs)) ≡ kept_before keeps (suc n + length xs)
      same = ap (kept_before keeps) (let e : n + suc (length xs) ≡ suc n + length xs = omega arith in e)

      by : (b : Bool) → keeps n ≡ b →
          length (kept_from keeps (suc n) xs) + kept_before keeps (suc n) ≡ kept_before keeps (suc n + length xs) →
          length ((if b then x ∷ [] else []) ++ kept_from keeps (suc n) xs) + kept_before keeps n ≡ kept_before keeps (n + suc (length xs))
      by true is rest = let one = kept-next n is in let at = same in omega (arith, rest, one, at)
      by false is rest = let one = dropped-next n is in let at = same in omega (arith, rest, one, at)

  pub kept-length : (xs : List ProcedureTree) (n : ℕ) → length xs ≤ n → length (kept_from keeps 0 xs) ≤ kept_before keeps n
  kept-length xs n past =
      let all = kept-from-length xs 0 in
      let most = kept-at-most (0 + length xs) n (omega (arith, past)) in omega (arith, all, most)
