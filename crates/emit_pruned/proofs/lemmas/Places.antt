-- The places of items of which some are kept, one after another.
use Rattle.std.specs.Prelude.{◌≡◌, ℕ, zero, suc, ◌+◌, ◌<◌, ◌≤◌, nat_lt, Bool, true, false, List, [], ◌∷◌, ◌++◌, slice_index_or, if◌then◌else◌}
use Rattle.std.proofs.Common.{refl, ap, ◌∙◌, arith}
use Rattle.std.proofs.lemmas.Bool.Decides.{nat_tests}
use Rattle.emit_pruned.specs.Pruned.{kept_before}

module _ (keeps : ℕ → Bool) where
  -- how many are kept before each of so many positions from n on
  abbrev pub counts : (n count : ℕ) → List ℕ
  counts n zero = []
  counts n (suc count) = kept_before keeps n ∷ counts (suc n) count

  counts-push : (n count m : ℕ) → n + count ≡ m → counts n (suc count) ≡ counts n count ++ kept_before keeps m ∷ []
  counts-push n zero m e = ap (λ k. kept_before keeps k ∷ []) (let same : n ≡ m = omega (arith, e) in same)
  counts-push n (suc count) m e = ap (λ ks. kept_before keeps n ∷ ks) (counts-push (suc n) count m (omega (arith, e)))

  pub counts-more : (count : ℕ) → counts 0 (count + 1) ≡ counts 0 count ++ kept_before keeps count ∷ []
  counts-more count = ap (counts 0) (let e : count + 1 ≡ suc count = omega arith in e) ∙ counts-push 0 count count (omega arith)

  pub kept-more : (n : ℕ) → kept_before keeps (n + 1) ≡ kept_before keeps n + (if keeps n then 1 else 0)
  kept-more n = ap (kept_before keeps) (let e : n + 1 ≡ suc n = omega arith in e)

  counts-at : (n count k m d : ℕ) → k < count → n + k ≡ m → slice_index_or (counts n count) k d ≡ kept_before keeps m
  counts-at n zero k m d inside e = absurd (omega (arith, inside))
  counts-at n (suc count) zero m d inside e = ap (kept_before keeps) (let same : n ≡ m = omega (arith, e) in same)
  counts-at n (suc count) (suc k) m d inside e = counts-at (suc n) count k m d (omega (arith, inside)) (omega (arith, e))

  counts-past : (n count k d : ℕ) → count ≤ k → slice_index_or (counts n count) k d ≡ d
  counts-past n zero k d past = refl
  counts-past n (suc count) zero d past = absurd (omega (arith, past))
  counts-past n (suc count) (suc k) d past = counts-past (suc n) count k d (omega (arith, past))

  -- the place at any position, where what is read past the end is right
  pub counted-at : (count k d : ℕ) → (count ≤ k → d ≡ kept_before keeps k) → slice_index_or (counts 0 count) k d ≡ kept_before keeps k
  counted-at count k d beyond = by (nat_lt k count) refl
    where
      by : (b : Bool) → nat_lt k count ≡ b → slice_index_or (counts 0 count) k d ≡ kept_before keeps k
      by true e = counts-at 0 count k k d (grind (arith, nat_tests)) (omega arith)
      by false e = let past : count ≤ k = grind (arith, nat_tests) in counts-past 0 count k d past ∙ beyond past
