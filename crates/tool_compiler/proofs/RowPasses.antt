-- Passes over the numbers of rows, which stop at the first that passes.
use Rattle.std.specs.Prelude.{◌≡◌, refl, ℕ, zero, suc, ◌+◌, ◌<◌, ◌≤◌, Bool, true, false, find, Option, Some, None}
use Rattle.std.specs.List.{range_with_len}
use Rattle.std.proofs.Common.{sym, ◌∙◌, ap, cond, arith, true≢false, inl, inr, ◌⊎◌}
use native.Mathlib.Decide.{ℕ_discrete}

le-cases : (a b : ℕ) → a ≤ b → (a < b) ⊎ (a ≡ b)
le-cases a b low = elim (ℕ_discrete a b) [ yes same ↦ inr same | no differ ↦ inl (omega (arith, low, differ)) ]

-- the first number of a range that passes a test
pub first-in-range : (test : ℕ → Bool) (n a b : ℕ) → a ≤ b → b < a + n → ((k : ℕ) → a ≤ k → k < b → test k ≡ false) →
    test b ≡ true → find test (range_with_len a n) ≡ Some b
first-in-range test zero a b low high none e = absurd (omega (arith, low, high))
first-in-range test (suc n) a b low high none e = by (test a) refl (first-in-range test n (a + 1) b)
  where
    by : (t : Bool) → test a ≡ t →
        (a + 1 ≤ b → b < a + 1 + n → ((k : ℕ) → a + 1 ≤ k → k < b → test k ≡ false) → test b ≡ true →
        find test (range_with_len (a + 1) n) ≡ Some b) →
        cond t (Some a) (find test (range_with_len (a + 1) n)) ≡ Some b
    by true q rest = elim (le-cases a b low) [
      | inl less ↦ absurd (true≢false (sym q ∙ none a (omega arith) less))
      | inr same ↦ ap Some same
    ]
    by false q rest = elim (le-cases a b low) [
      | inl less ↦ rest (omega (arith, less)) (omega (arith, high)) (λ k above under. none k (omega (arith, above)) under) e
      | inr same ↦ absurd (true≢false (sym e ∙ sym (ap test same) ∙ q))
    ]

-- none passes
pub none-in-range : (test : ℕ → Bool) (n a : ℕ) → ((k : ℕ) → a ≤ k → k < a + n → test k ≡ false) → find test (range_with_len a n) ≡ None
none-in-range test zero a none = refl
none-in-range test (suc n) a none =
    ap (λ t. cond t (Some a) (find test (range_with_len (a + 1) n))) (none a (omega arith) (omega arith))
    ∙ none-in-range test n (a + 1) (λ k above under. none k (omega (arith, above)) (omega (arith, under)))

-- nothing is there
pub none-from : {A : Type 0} (o : Option A) → ((x : A) → o ≡ Some x → ⊥) → o ≡ None
none-from None h = refl
none-from (Some x) h = absurd (h x refl)
