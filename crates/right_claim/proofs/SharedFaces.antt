-- The interfaces of a root and of its shared child are exact, and none that are have fewer functions.
use Rattle.std.specs.Prelude.{◌↔◌, refl, ℕ, zero, suc, ◌<◌, List, [], ◌∷◌, slice_index, IsBitSet, Some, None}
use Rattle.std.specs.Fmt.{digits}
use Rattle.std.proofs.Common.{arith, inl, inr, rules}
use Rattle.base_core.specs.Interface.{Interface, LeadsTo, ShownToNeed, IsExact, NeedsAreLeast}
use Rattle.modules_profile.specs.LocalSamples.{shared_child}
use Rattle.emit_shape.specs.Faces.{HasLeastInterface}
use Rattle.right_claim.specs.SharedSamples.{shared_program}
use Rattle.right_claim.proofs.SharedNeeds.{inner_needs, outer_needs}

-- nothing must come before anything
pub leads-nowhere : (f g : ℕ) (path : List ℕ) → LeadsTo [] f path g → ⊥
leads-nowhere f g [] h = let below = h.1 in omega arith
leads-nowhere f g (next ∷ path) h = let below = h.0.1 in omega arith

pub shown-by-itself : (takes gives : List ℕ) (g k : ℕ) →
    ShownToNeed (record { takes = takes; gives = gives; before = [] }) g k → IsBitSet (slice_index takes g) k
shown-by-itself takes gives g k (inl bit) = bit
shown-by-itself takes gives g k (inr (f, way, bit)) = absurd (leads-nowhere f g way.0 way.1)

abbrev child_face : Interface
child_face = record { takes = 1 ∷ []; gives = 0 ∷ []; before = [] }

child-exact : IsExact child_face (1 ∷ [])
child-exact = record { outputs = refl; exact = exact }
  where
    exact : (o k : ℕ) → o < 1 → ShownToNeed child_face (slice_index (0 ∷ []) o) k ↔ IsBitSet (slice_index (1 ∷ []) o) k
    exact zero k below = (λ h. shown-by-itself (1 ∷ []) (0 ∷ []) 0 k h, λ bit. inl bit)
    exact (suc o) k below = absurd (omega arith)

abbrev top_face : Interface
top_face = record { takes = 1 ∷ 3 ∷ []; gives = 0 ∷ 1 ∷ []; before = [] }

top-exact : IsExact top_face (1 ∷ 3 ∷ [])
top-exact = record { outputs = refl; exact = exact }
  where
    exact : (o k : ℕ) → o < 2 → ShownToNeed top_face (slice_index (0 ∷ 1 ∷ []) o) k ↔ IsBitSet (slice_index (1 ∷ 3 ∷ []) o) k
    exact zero k below = (λ h. shown-by-itself (1 ∷ 3 ∷ []) (0 ∷ 1 ∷ []) 0 k h, λ bit. inl bit)
    exact (suc zero) k below = (λ h. shown-by-itself (1 ∷ 3 ∷ []) (0 ∷ 1 ∷ []) 1 k h, λ bit. inl bit)
    exact (suc (suc o)) k below = absurd (omega arith)

child_least : NeedsAreLeast → HasLeastInterface shared_program shared_child (Some 2)
unfolding digits
child_least law = record {
  needs = 1 ∷ [];
  are_needs = inner_needs;
  face = child_face;
  is_face = record { functions = refl; outputs = refl; no_order = refl };
  is_interface = record { gives = search rules; before = search rules };
  exact = child-exact;
  least = λ other is exact. law other (1 ∷ []) is exact;
}

top_least : NeedsAreLeast → HasLeastInterface shared_program shared_child None
unfolding digits
top_least law = record {
  needs = 1 ∷ 3 ∷ [];
  are_needs = outer_needs;
  face = top_face;
  is_face = record { functions = refl; outputs = refl; no_order = refl };
  is_interface = record { gives = search rules; before = search rules };
  exact = top-exact;
  least = λ other is exact. law other (1 ∷ 3 ∷ []) is exact;
}
