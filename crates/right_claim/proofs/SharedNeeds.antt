-- The needs of the outputs of the root and of its shared child: so their profiles are those of the model.
use Rattle.std.specs.Prelude.{◌≡◌, ◌⊎◌, ◌↔◌, refl, ℕ, zero, suc, ◌-◌, ◌<◌, ◌≤◌, Bool, true, false, List, [], ◌∷◌, Contains, IsBitSet, Some, None}
use Rattle.std.proofs.Common.{sym, ap, subst, arith, inl, inr, lit<, true≢false}
use Rattle.std.proofs.lemmas.Nat.{pow_apart}
use Rattle.base_graph.proofs.lemmas.Bits.{or-cases}
use Rattle.base_core.specs.declared.Port.TheVariants.{Number}
use Rattle.diagram_blocks.specs.Kinds.{port_of}
use Rattle.diagram_meaning.specs.Walk.{Walk, Reaches}
use Rattle.diagram_meaning.specs.Needs.{needs_inside, TrueNeeds, IsInputRow, AreTrueNeeds}
use Rattle.modules_profile.specs.Functions.{IsProfileOf}
use Rattle.modules_profile.specs.LocalSamples.{shared_child, inner_profile, outer_profile}

-- ---- Bits

first_alone : (n : ℕ) → IsBitSet 1 n → n ≡ 0
first_alone zero b = refl
first_alone (suc n) b = absurd (b (pow_apart 0 (suc n) (λ e. omega arith)))

second_alone : (n : ℕ) → IsBitSet 2 n → n ≡ 1
second_alone zero b = absurd (b (pow_apart 1 0 (λ e. omega arith)))
second_alone (suc zero) b = refl
second_alone (suc (suc n)) b = absurd (b (pow_apart 1 (suc (suc n)) (λ e. omega arith)))

first_input : (k : ℕ) → 0 < k → IsBitSet 1 (k - 1) → k ≡ 1
first_input k above b = let at = first_alone (k - 1) b in omega arith

either_input : (k : ℕ) → 0 < k → IsBitSet 3 (k - 1) → (k ≡ 1) ⊎ (k ≡ 2)
either_input k above b = elim (or-cases 1 2 (k - 1) b) as (λ o. (k ≡ 1) ⊎ (k ≡ 2)) [
  | inl one ↦ inl (let at = first_alone (k - 1) one in omega arith)
  | inr two ↦ inr (let at = second_alone (k - 1) two in omega arith)
]

-- ---- Inputs

pub outer_input : (k i : ℕ) → IsInputRow shared_child.rows None k i → ((k ≡ 1) × (i ≡ 0)) ⊎ ((k ≡ 2) × (i ≡ 1))
outer_input k zero h = inl (sym (ap port_of h.is_inport), refl)
outer_input k (suc zero) h = inr (sym (ap port_of h.is_inport), refl)
outer_input k (suc (suc (suc zero))) h = cc h.is_own
outer_input k (suc (suc (suc (suc (suc (suc (suc (suc i)))))))) h = absurd (let below = h.in_table in omega arith)
outer_input k _ h = cc h.is_inport

inner_input : (k i : ℕ) → IsInputRow shared_child.rows (Some 2) k i → k ≡ 1
inner_input k (suc (suc (suc zero))) h = sym (ap port_of h.is_inport)
inner_input k (suc (suc (suc (suc zero)))) h = cc h.is_inport
inner_input k (suc (suc (suc (suc (suc (suc (suc (suc i)))))))) h = absurd (let below = h.in_table in omega arith)
inner_input k _ h = cc h.is_own

-- ---- What the first output doesn't reach

-- rows that the first output reaches
abbrev reached : ℕ → Bool
reached (suc zero) = false
reached (suc (suc zero)) = false
reached (suc (suc (suc (suc (suc zero))))) = false
reached (suc (suc (suc (suc (suc (suc (suc b))))))) = false
reached _ = true

only_of : (a c : ℕ) → reached a ≡ true → Contains (a ∷ []) c → reached c ≡ true
only_of a c is (zero, below, e) = subst (λ x. reached x ≡ true) e is
only_of a c is (suc k, below, e) = absurd (omega arith)

closed : (a c : ℕ) → reached a ≡ true → Contains (needs_inside shared_child None a) c → reached c ≡ true
closed zero c is h = absurd (let below = h.1 in omega arith)
closed (suc (suc (suc zero))) c is h = only_of 0 c refl h
closed (suc (suc (suc (suc zero)))) c is h = only_of 3 c refl h
closed (suc (suc (suc (suc (suc (suc zero)))))) c is h = only_of 4 c refl h
closed _ c is h = absurd (true≢false (sym is))

along : (a : ℕ) (path : List ℕ) (z : ℕ) → reached a ≡ true → Walk (needs_inside shared_child None) a path z → reached z ≡ true
along a [] z is w = closed a z is w
along a (b ∷ path) z is w = along b path z (closed a b is w.0) w.1

pub not_second : Reaches (needs_inside shared_child None) 6 1 → ⊥
not_second (inl e) = omega arith
not_second (inr p) = true≢false (sym (along 6 p.0 1 refl p.1))

-- ---- Masks

child_needs : (k : ℕ) → 0 < k → k ≤ 32 → IsBitSet 1 (k - 1) ↔ TrueNeeds shared_child (Some 2) 4 (Number k)
child_needs k above below = (
  λ b. subst (λ n. TrueNeeds shared_child (Some 2) 4 (Number n)) (sym (first_input k above b))
      (3, record { in_table = lit< tt; is_inport = refl; is_own = refl }, inr ([], (0, lit< tt, refl))),
  λ t. subst (λ n. IsBitSet 1 (n - 1)) (sym (inner_input k t.0 t.1)) (λ e. let no : 1 ≡ 0 = e in omega arith),
)

in1 : (o : ℕ) → Reaches (needs_inside shared_child None) o 0 → TrueNeeds shared_child None o (Number 1)
in1 o way = (0, record { in_table = lit< tt; is_inport = refl; is_own = refl }, way)

in2 : (o : ℕ) → Reaches (needs_inside shared_child None) o 1 → TrueNeeds shared_child None o (Number 2)
in2 o way = (1, record { in_table = lit< tt; is_inport = refl; is_own = refl }, way)

first_needs : (k : ℕ) → 0 < k → k ≤ 32 → IsBitSet 1 (k - 1) ↔ TrueNeeds shared_child None 6 (Number k)
first_needs k above below = (
  λ b. subst (λ n. TrueNeeds shared_child None 6 (Number n)) (sym (first_input k above b))
      (in1 6 (inr (4 ∷ 3 ∷ [], ((0, lit< tt, refl), ((0, lit< tt, refl), (0, lit< tt, refl)))))),
  λ t. elim (outer_input k t.0 t.1) as (λ o. IsBitSet 1 (k - 1)) [
    | inl one ↦ subst (λ n. IsBitSet 1 (n - 1)) (sym one.0) (λ e. let no : 1 ≡ 0 = e in omega arith)
    | inr two ↦ absurd (not_second (subst (λ i. Reaches (needs_inside shared_child None) 6 i) two.1 t.2))
  ],
)

second_needs : (k : ℕ) → 0 < k → k ≤ 32 → IsBitSet 3 (k - 1) ↔ TrueNeeds shared_child None 7 (Number k)
second_needs k above below = (
  λ b. elim (either_input k above b) as (λ o. TrueNeeds shared_child None 7 (Number k)) [
    | inl one ↦
        subst (λ n. TrueNeeds shared_child None 7 (Number n)) (sym one)
        (in1 7 (inr (
          5 ∷ 4 ∷ 3 ∷ [],
          ((0, lit< tt, refl), ((0, lit< tt, refl), ((0, lit< tt, refl), (0, lit< tt, refl)))),
        )))
    | inr two ↦
        subst (λ n. TrueNeeds shared_child None 7 (Number n)) (sym two)
        (in2 7 (inr (5 ∷ [], ((0, lit< tt, refl), (1, lit< tt, refl)))))
  ],
  λ t. elim (outer_input k t.0 t.1) as (λ o. IsBitSet 3 (k - 1)) [
    | inl one ↦ subst (λ n. IsBitSet 3 (n - 1)) (sym one.0) (λ e. let no : 1 ≡ 0 = e in omega arith)
    | inr two ↦ subst (λ n. IsBitSet 3 (n - 1)) (sym two.0) (λ e. let no : 2 ≡ 0 = e in omega arith)
  ],
)

pub inner_needs : AreTrueNeeds shared_child (Some 2) (1 ∷ [])
inner_needs = (
  record {
    bounded = lit< tt;
    number = child_needs;
    enable = (λ b. absurd (b refl), λ t. absurd (true≢false (sym t)));
    trigger = (λ b. absurd (b refl), λ t. absurd (true≢false (sym t)));
  },
  tt,
)

pub outer_needs : AreTrueNeeds shared_child None (1 ∷ 3 ∷ [])
outer_needs = (
  record {
    bounded = lit< tt;
    number = first_needs;
    enable = (λ b. absurd (b refl), λ t. absurd (true≢false (sym t)));
    trigger = (λ b. absurd (b refl), λ t. absurd (true≢false (sym t)));
  },
  (
    record {
      bounded = lit< tt;
      number = second_needs;
      enable = (λ b. absurd (b refl), λ t. absurd (true≢false (sym t)));
      trigger = (λ b. absurd (b refl), λ t. absurd (true≢false (sym t)));
    },
    tt,
  ),
)

pub inner_is_profile : IsProfileOf shared_child (Some 2) inner_profile
inner_is_profile = record { needs = 1 ∷ []; are_needs = inner_needs; row = refl; functions = refl }

pub outer_is_profile : IsProfileOf shared_child None outer_profile
outer_is_profile = record { needs = 1 ∷ 3 ∷ []; are_needs = outer_needs; row = refl; functions = refl }
