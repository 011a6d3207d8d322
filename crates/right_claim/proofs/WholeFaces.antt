-- In the sample of whole right code no output needs an input, so each system has one function, which takes none.
use Rattle.std.specs.Prelude.{◌↔◌, refl, ℕ, zero, suc, ◌-◌, ◌^◌, ◌<◌, ◌≤◌, [], ◌∷◌, slice_index, IsBitSet, Option, Some, None}
use Rattle.std.specs.Fmt.{digits}
use Rattle.std.specs.Int.Bits.{and_zero_l}
use Rattle.std.proofs.Common.{sym, arith, inl, lit<, rules, true≢false}
use Rattle.base_core.specs.declared.Port.TheVariants.{Number}
use Rattle.base_core.specs.Interface.{Interface, ShownToNeed, IsExact, NeedsAreLeast}
use Rattle.diagram_meaning.specs.Needs.{TrueNeeds, IsInputRow, AreTrueNeeds}
use Rattle.modules_profile.specs.Functions.{IsProfileOf}
use Rattle.emit_shape.specs.Faces.{HasLeastInterface}
use Rattle.right_claim.specs.WholeSamples.{later_five, child_profile, top_profile, whole_program}
use Rattle.right_claim.proofs.SharedFaces.{shown-by-itself}

-- ---- Needs

pub no-bit : (k : ℕ) → IsBitSet 0 k → ⊥
no-bit k set = set (and_zero_l (2 ^ k))

no-input : (s : Option ℕ) (k i : ℕ) → IsInputRow later_five.rows s k i → ⊥
no-input s k (suc (suc (suc (suc (suc i))))) h = let below = h.in_table in omega arith
no-input s k _ h = cc h.is_inport

needs-none : (s : Option ℕ) (o k : ℕ) → 0 < k → k ≤ 32 → IsBitSet 0 (k - 1) ↔ TrueNeeds later_five s o (Number k)
needs-none s o k above below = (λ b. absurd (no-bit (k - 1) b), λ t. absurd (no-input s k t.0 t.1))

pub child_needs : AreTrueNeeds later_five (Some 0) (0 ∷ [])
child_needs = (
  record {
    bounded = lit< tt;
    number = needs-none (Some 0) 3;
    enable = (λ b. absurd (no-bit 32 b), λ t. absurd (true≢false (sym t)));
    trigger = (λ b. absurd (no-bit 33 b), λ t. absurd (true≢false (sym t)));
  },
  tt,
)

pub top_needs : AreTrueNeeds later_five None (0 ∷ [])
top_needs = (
  record {
    bounded = lit< tt;
    number = needs-none None 4;
    enable = (λ b. absurd (no-bit 32 b), λ t. absurd (true≢false (sym t)));
    trigger = (λ b. absurd (no-bit 33 b), λ t. absurd (true≢false (sym t)));
  },
  tt,
)

pub child_is_profile : IsProfileOf later_five (Some 0) child_profile
child_is_profile = record { needs = 0 ∷ []; are_needs = child_needs; row = refl; functions = refl }

pub top_is_profile : IsProfileOf later_five None top_profile
top_is_profile = record { needs = 0 ∷ []; are_needs = top_needs; row = refl; functions = refl }

-- ---- Interfaces

abbrev one_face : Interface
one_face = record { takes = 0 ∷ []; gives = 0 ∷ []; before = [] }

one-exact : IsExact one_face (0 ∷ [])
one-exact = record { outputs = refl; exact = exact }
  where
    exact : (o k : ℕ) → o < 1 → ShownToNeed one_face (slice_index (0 ∷ []) o) k ↔ IsBitSet (slice_index (0 ∷ []) o) k
    exact zero k below = (λ h. shown-by-itself (0 ∷ []) (0 ∷ []) 0 k h, λ bit. inl bit)
    exact (suc o) k below = absurd (omega arith)

pub child_least : NeedsAreLeast → HasLeastInterface whole_program later_five (Some 0)
unfolding digits
child_least law = record {
  needs = 0 ∷ [];
  are_needs = child_needs;
  face = one_face;
  is_face = record { functions = refl; outputs = refl; no_order = refl };
  is_interface = record { gives = search rules; before = search rules };
  exact = one-exact;
  least = λ other is exact. law other (0 ∷ []) is exact;
}

pub top_least : NeedsAreLeast → HasLeastInterface whole_program later_five None
unfolding digits
top_least law = record {
  needs = 0 ∷ [];
  are_needs = top_needs;
  face = one_face;
  is_face = record { functions = refl; outputs = refl; no_order = refl };
  is_interface = record { gives = search rules; before = search rules };
  exact = one-exact;
  least = λ other is exact. law other (0 ∷ []) is exact;
}
