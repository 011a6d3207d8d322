-- What rows read of a row of the trace.
use Rattle.std.specs.Prelude.{◌≡◌, ℕ, zero, suc, ◌+◌, ◌-◌, ◌<◌, ◌⊎◌, List, length, None, ℤ}
use Rattle.std.proofs.Common.{arith, inl, inr, subst, sym}
use Rattle.base_fixed_point.specs.Conversion.{InType}
use Rattle.diagram_meaning.specs.ResolvedTree.{ResolvedTree}
use Rattle.diagram_meaning.specs.Diagram.{type_at}
use Rattle.diagram_meaning.specs.Needs.{IsInputRow}
use Rattle.diagram_meaning.specs.Run.{value_at}

-- where row b is an Inport of the root, its number is there and in its type
abbrev pub HasInputOf : ResolvedTree → List ℤ → ℕ → Type 0
HasInputOf r x b = (port : ℕ) → IsInputRow r.tree.table.rows None port b →
    (port - 1 < length x) × InType (type_at r.types b) (value_at x (port - 1))

below-or-last : (n k : ℕ) → k < n + 1 → (k < n) ⊎ (k ≡ n)
below-or-last zero zero below = inr (omega arith)
below-or-last zero (suc k) below = absurd (omega arith)
below-or-last (suc n) zero below = inl (omega arith)
below-or-last (suc n) (suc k) below = elim (below-or-last n k (omega arith)) [ inl h ↦ inl (omega arith) | inr h ↦ inr (omega arith) ]

-- what holds of all numbers below n, and of n
pub all-more : (P : ℕ → Type 0) (n : ℕ) → ((k : ℕ) → k < n → P k) → P n → (k : ℕ) → k < n + 1 → P k
all-more P n so_far last k below = elim (below-or-last n k below) [ inl h ↦ so_far k h | inr h ↦ subst P (sym h) last ]
