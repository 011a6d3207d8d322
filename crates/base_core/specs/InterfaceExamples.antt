-- Worked interfaces.
use Rattle.std.specs.Prelude.{◌≡◌, refl, ℕ, zero, suc, ◌<◌, ◌↔◌, [], ◌∷◌, slice_index, IsBitSet}
use Rattle.std.proofs.Common.{inl, inr, ⊎_elim, arith}
use Rattle.base_core.specs.Interface.{Interface, IsExact, MustPrecede, ShownToNeed, output_functions, different}

-- three outputs, of which two need input 0 and the third needs none, by two functions
abbrev three : Interface
three = record { takes = 1 ∷ 0 ∷ []; gives = 0 ∷ 0 ∷ 1 ∷ []; before = [] }

functions_three : output_functions three ≡ 2
functions_three = refl

different_three : different (1 ∷ 1 ∷ 0 ∷ []) ≡ 1 ∷ 0 ∷ []
different_three = refl

-- each is at its first place
first_places : different (1 ∷ 0 ∷ 1 ∷ 2 ∷ 0 ∷ []) ≡ 1 ∷ 0 ∷ 2 ∷ []
first_places = refl

nothing_before : (f g : ℕ) → MustPrecede [] f g → ⊥
nothing_before f g ([], (i, h, e)) = omega (arith, h)
nothing_before f g (next ∷ path, ((i, h, e), more)) = omega (arith, h)

alone : (g k : ℕ) → ShownToNeed three g k ↔ IsBitSet (slice_index three.takes g) k
alone g k = (λ s. ⊎_elim (λ h. h) (λ r. absurd (nothing_before r.0 g r.1)) s, inl)

exact_three : IsExact three (1 ∷ 1 ∷ 0 ∷ [])
exact_three = record { outputs = refl; exact = by_output }
  where
    by_output : (o k : ℕ) → o < 3 →
        ShownToNeed three (slice_index three.gives o) k
        ↔ IsBitSet (slice_index (1 ∷ 1 ∷ 0 ∷ []) o) k
    by_output zero k h = alone 0 k
    by_output (suc zero) k h = alone 0 k
    by_output (suc (suc zero)) k h = alone 1 k
    by_output (suc (suc (suc o))) k h = absurd (omega (arith, h))

-- a function that takes nothing needs what one takes that must come before it
abbrev helped : Interface
helped = record { takes = 1 ∷ 0 ∷ []; gives = 1 ∷ []; before = (0, 1) ∷ [] }

helped_needs : ShownToNeed helped 1 0
helped_needs = inr (0, ([], (0, omega arith, refl)), λ e. omega (arith, e))

functions_helped : output_functions helped ≡ 1
functions_helped = refl
