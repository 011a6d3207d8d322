-- The numbers of a range that pass a test, where these have no gap.
use Rattle.std.specs.Prelude.{◌≡◌, ℕ, zero, suc, ◌+◌, ◌≤◌, ◌<◌, Bool, true, false, [], ◌∷◌, filter, cond}
use Rattle.std.specs.List.{range_with_len}
use Rattle.std.proofs.Common.{refl, ◌∙◌, ap, arith}

module _ (p : ℕ → Bool) where
  -- none pass
  none-pass : (a n : ℕ) → ((b : ℕ) → a ≤ b → b < a + n → p b ≡ false) → filter p (range_with_len a n) ≡ []
  none-pass a zero none = refl
  none-pass a (suc n) none =
      ap (λ t. cond t (a ∷ filter p (range_with_len (a + 1) n)) (filter p (range_with_len (a + 1) n)))
      (none a (omega arith) (omega arith))
      ∙ none-pass (a + 1) n (λ b from below. none b (omega arith) (omega arith))

  -- the first k of n pass, and no others
  first-pass : (a k n : ℕ) → k ≤ n → ((b : ℕ) → a ≤ b → b < a + k → p b ≡ true) →
      ((b : ℕ) → a + k ≤ b → b < a + n → p b ≡ false) → filter p (range_with_len a n) ≡ range_with_len a k
  first-pass a zero n few all none = none-pass a n (λ b from below. none b (omega arith) (omega arith))
  first-pass a (suc k) zero few all none = absurd (omega (arith, few))
  first-pass a (suc k) (suc n) few all none =
      ap (λ t. cond t (a ∷ filter p (range_with_len (a + 1) n)) (filter p (range_with_len (a + 1) n)))
      (all a (omega arith) (omega arith))
      ∙ ap (λ l. a ∷ l) (first-pass (a + 1) k n (omega (arith, few)) (λ b from below. all b (omega arith) (omega arith))
      (λ b from below. none b (omega arith) (omega arith)))

  -- of n numbers k pass after the first m, and no others
  pub range-passes : (a m s k n : ℕ) → s ≡ a + m → m + k ≤ n → ((b : ℕ) → a ≤ b → b < s → p b ≡ false) →
      ((b : ℕ) → s ≤ b → b < s + k → p b ≡ true) → ((b : ℕ) → s + k ≤ b → b < a + n → p b ≡ false) →
      filter p (range_with_len a n) ≡ range_with_len s k
  range-passes a zero s k n is few before all none =
      ap (λ x. filter p (range_with_len x n)) (omega (arith, is))
      ∙ first-pass s k n (omega (arith, few)) all (λ b from below. none b from (omega (arith, below, is)))
  range-passes a (suc m) s k zero is few before all none = absurd (omega (arith, few))
  range-passes a (suc m) s k (suc n) is few before all none =
      ap (λ t. cond t (a ∷ filter p (range_with_len (a + 1) n)) (filter p (range_with_len (a + 1) n)))
      (before a (omega arith) (omega (arith, is)))
      ∙ range-passes (a + 1) m s k n (omega (arith, is)) (omega (arith, few)) (λ b from below. before b (omega (arith, from)) below) all
      (λ b from below. none b from (omega (arith, below)))
