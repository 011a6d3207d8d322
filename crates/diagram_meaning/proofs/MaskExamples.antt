-- The needs of outputs as masks: one that is the input, and one after a delay.
use Rattle.std.specs.Prelude.{◌≡◌, ℕ, zero, suc, ◌-◌, ◌^◌, ◌≤◌, ◌<◌, false, List, [], ◌∷◌, IsBitSet, Contains, None, ◌↔◌, refl}
use Rattle.std.proofs.Common.{sym, ap, subst, arith, inl, inr, lit<, true≢false}
use Rattle.std.proofs.lemmas.Nat.{pow_apart}
use lib.Bits.{and_zero_l}
use Rattle.base_core.specs.declared.Port.TheVariants.{Number}
use Rattle.diagram_blocks.specs.declared.Kind.TheVariants.{Inport, Outport, UnitDelay}
use Rattle.diagram_meaning.specs.Diagram.{Diagram}
use Rattle.diagram_meaning.specs.Rows.{outports_of}
use Rattle.diagram_blocks.specs.Kinds.{port_of}
use Rattle.diagram_meaning.specs.Walk.{Walk, Reaches}
use Rattle.diagram_meaning.specs.Needs.{needs_inside, TrueNeeds, IsInputRow, IsMaskOf, AreTrueNeeds}
use Rattle.diagram_meaning.specs.RunExamples.{simple, row, zero_initial}
use Rattle.diagram_meaning.proofs.lemmas.Inside.{Contains-nil}
use Rattle.diagram_meaning.proofs.lemmas.NeedsExamples.{of_one}

-- an input that is the first output, and through a delay the second
abbrev split : Diagram
split = simple (row None (Inport 1) [] ∷ row None (Outport 1 false zero_initial) (0 ∷ [])
    ∷ row None (UnitDelay zero_initial) (0 ∷ []) ∷ row None (Outport 2 false zero_initial) (2 ∷ []) ∷ [])

pub split_outports : outports_of split.rows None ≡ 1 ∷ 3 ∷ []
split_outports = refl

-- row 0 is the one input row
input_is : (k i : ℕ) → IsInputRow split.rows None k i → (k ≡ 1) × (i ≡ 0)
input_is k zero h = (sym (ap port_of h.is_inport), refl)
input_is k (suc zero) h = cc h.is_inport
input_is k (suc (suc zero)) h = cc h.is_inport
input_is k (suc (suc (suc zero))) h = cc h.is_inport
input_is k (suc (suc (suc (suc i)))) h = absurd (let below = h.in_table in omega arith)

set-is_first : (k : ℕ) → 0 < k → IsBitSet 1 (k - 1) → k ≡ 1
set-is_first zero above b = absurd (omega arith)
set-is_first (suc zero) above b = refl
set-is_first (suc (suc k)) above b = absurd (b (pow_apart 0 (suc (suc k) - 1) (λ e. omega arith)))

first-needs : (k : ℕ) → 0 < k → k ≤ 32 → IsBitSet 1 (k - 1) ↔ TrueNeeds split None 1 (Number k)
first-needs k above below = (
  λ b. subst (λ n. TrueNeeds split None 1 (Number n)) (sym (set-is_first k above b))
      (0, record { in_table = lit< tt; is_inport = refl; is_own = refl }, inr ([], (0, lit< tt, refl))),
  λ t. subst (λ n. IsBitSet 1 (n - 1)) (sym (input_is k t.0 t.1).0) (λ e. let no : 1 ≡ 0 = e in omega arith),
)

pub first_mask : IsMaskOf (TrueNeeds split None 1) 1
first_mask = record {
  bounded = lit< tt;
  number = first-needs;
  enable = (λ b. absurd (b refl), λ t. absurd (true≢false (sym t)));
  trigger = (λ b. absurd (b refl), λ t. absurd (true≢false (sym t)));
}

-- the delay needs nothing at the same tick
no-walk : (path : List ℕ) → Walk (needs_inside split None) 3 path 0 → ⊥
no-walk [] w = let e = of_one 2 0 w in omega arith
no-walk (b ∷ []) w = Contains-nil 0 (subst (λ c. Contains (needs_inside split None c) 0) (sym (of_one 2 b w.0)) w.1)
no-walk (b ∷ c ∷ path) w = Contains-nil c (subst (λ e. Contains (needs_inside split None e) c) (sym (of_one 2 b w.0)) w.1.0)

no-reach : Reaches (needs_inside split None) 3 0 → ⊥
no-reach (inl e) = omega arith
no-reach (inr p) = no-walk p.0 p.1

not-needed : (k : ℕ) → TrueNeeds split None 3 (Number k) → ⊥
not-needed k t = no-reach (subst (λ i. Reaches (needs_inside split None) 3 i) (input_is k t.0 t.1).1 t.2)

none-needs : (k : ℕ) → 0 < k → k ≤ 32 → IsBitSet 0 (k - 1) ↔ TrueNeeds split None 3 (Number k)
none-needs k above below = (λ b. absurd (b (and_zero_l (2 ^ (k - 1)))), λ t. absurd (not-needed k t))

pub second_mask : IsMaskOf (TrueNeeds split None 3) 0
second_mask = record {
  bounded = lit< tt;
  number = none-needs;
  enable = (λ b. absurd (b refl), λ t. absurd (true≢false (sym t)));
  trigger = (λ b. absurd (b refl), λ t. absurd (true≢false (sym t)));
}

pub split_needs : AreTrueNeeds split None (1 ∷ 0 ∷ [])
split_needs = (first_mask, (second_mask, tt))
