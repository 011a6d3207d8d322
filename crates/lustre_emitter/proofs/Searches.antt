-- The first number of a range that passes a test.
use Rattle.std.proofs.Common.{◌≡◌, ℕ, zero, suc, ◌+◌, ◌<◌, ◌≤◌, Bool, true, false, cond, find, length, List, Some, None, refl, sym, ap, ◌∙◌, arith, true≢false, inl, inr, ◌⊎◌}
use Rattle.std.specs.List.{range_with_len}
use Rattle.diagram_meaning.specs.declared.table.Row.{Row}
use Rattle.diagram_meaning.specs.Rows.{row_numbers}
use native.Mathlib.Decide.{ℕ_discrete}

le-cases : (a b : ℕ) → a ≤ b → (a < b) ⊎ (a ≡ b)
le-cases a b low = elim (ℕ_discrete a b) [ yes same ↦ inr same | no differ ↦ inl (omega (arith, low, differ)) ]

first-from : (p : ℕ → Bool) (n a k : ℕ) → a ≤ k → k < a + n → ((j : ℕ) → a ≤ j → j < k → p j ≡ false) → p k ≡ true →
    find p (range_with_len a n) ≡ Some k
first-from p zero a k low high none here = absurd (omega (arith, low, high))
first-from p (suc n) a k low high none here = by (p a) refl (first-from p n (a + 1) k)
  where
    by : (t : Bool) → p a ≡ t →
        (a + 1 ≤ k → k < a + 1 + n → ((j : ℕ) → a + 1 ≤ j → j < k → p j ≡ false) → p k ≡ true →
        find p (range_with_len (a + 1) n) ≡ Some k) →
        cond t (Some a) (find p (range_with_len (a + 1) n)) ≡ Some k
    by true q rest = elim (le-cases a k low) [
      | inl less ↦ absurd (true≢false (sym q ∙ none a (omega arith) less))
      | inr same ↦ ap Some same
    ]
    by false q rest = elim (le-cases a k low) [
      | inl less ↦ rest (omega (arith, less)) (omega (arith, high)) (λ j above under. none j (omega (arith, above)) under) here
      | inr same ↦ absurd (true≢false (sym here ∙ sym (ap p same) ∙ q))
    ]

none-from : (p : ℕ → Bool) (n a : ℕ) → ((j : ℕ) → a ≤ j → j < a + n → p j ≡ false) → find p (range_with_len a n) ≡ None
none-from p zero a none = refl
none-from p (suc n) a none =
    ap (λ t. cond t (Some a) (find p (range_with_len (a + 1) n))) (none a (omega arith) (omega arith))
    ∙ none-from p n (a + 1) (λ j above under. none j (omega (arith, above)) (omega (arith, under)))

-- the first row that passes
pub first-row : (rows : List Row) (p : ℕ → Bool) (b : ℕ) → b < length rows → ((j : ℕ) → j < b → p j ≡ false) → p b ≡ true →
    find p (row_numbers rows) ≡ Some b
first-row rows p b below none here =
    first-from p (length rows) 0 b (omega arith) (omega (arith, below)) (λ j above under. none j under) here

-- no row passes
pub no-row : (rows : List Row) (p : ℕ → Bool) (n : ℕ) → length rows ≤ n → ((j : ℕ) → j < n → p j ≡ false) →
    find p (row_numbers rows) ≡ None
no-row rows p n past none = none-from p (length rows) 0 (λ j above under. none j (omega (arith, past, under)))
