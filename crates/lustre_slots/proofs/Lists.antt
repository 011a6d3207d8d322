-- Lists, one item further.
use Rattle.std.proofs.Common.{◌≡◌, refl, ℕ, zero, suc, ◌+◌, ◌<◌, ◌≤◌, List, [], ◌∷◌, ◌++◌, length, drop, map, arith, ap, add-one, ◌∙◌, sym}
use native.Mathlib.Numerals.{unary_clauses}

-- what is left of a list is an item and what is left after it
pub dropped : {A : Type 0} (xs : List A) (k : ℕ) → k < length xs → (x : A) × (drop k xs ≡ x ∷ drop (k + 1) xs)
dropped [] k h = absurd (omega arith)
dropped (x ∷ xs) zero h = (x, refl)
dropped (x ∷ xs) (suc k) h =
    let rest = dropped xs k (omega arith) in
    (rest.0, simp unary_clauses (simp unary_clauses at rest.1))
