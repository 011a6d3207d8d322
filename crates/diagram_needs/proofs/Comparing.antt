-- Cases on two numbers.
use Rattle.std.specs.Prelude.{◌≡◌, ℕ, zero, suc, ◌<◌, ◌≤◌, ◌⊎◌}
use Rattle.std.proofs.Common.{arith, inl, inr}

pub le-or-above : (a b : ℕ) → (a ≤ b) ⊎ (b < a)
le-or-above zero b = inl (omega arith)
le-or-above (suc a) zero = inr (omega arith)
le-or-above (suc a) (suc b) = elim (le-or-above a b) [ inl h ↦ inl (omega arith) | inr h ↦ inr (omega arith) ]

pub zero-or-above : (a : ℕ) → (a ≡ 0) ⊎ (0 < a)
zero-or-above zero = inl (omega arith)
zero-or-above (suc a) = inr (omega arith)
