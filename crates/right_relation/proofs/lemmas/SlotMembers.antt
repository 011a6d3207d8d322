-- What the slots of a system are, and that each row, and each child, has one.
use Rattle.std.specs.Prelude.{◌≡◌, ℕ, zero, suc, ◌+◌, ◌≤◌, Bool, true, false, cond, ◌==◌, if◌then◌else◌, List, [], ◌∷◌, ◌++◌, map, flat_map, filter, slice_get, Contains, Option, Some, None, ⊤, refl}
use Rattle.std.specs.List.{enumerate_from}
use Rattle.std.proofs.Common.{sym, ap, subst, ◌∙◌, arith, inl, inr, true≢false}
use Rattle.std.proofs.lemmas.Bool.{eqb-true}
use Rattle.std.proofs.lemmas.List.Elements.{Contains-append_cases}
use Rattle.std.proofs.lemmas.List.Sorted.{Contains-permutation, IsPermutation-sym, sum_by-IsPermutation}
use Rattle.std.proofs.lemmas.Option.{same_Some, none-some}
use Rattle.diagram_blocks.specs.Meaning.{has_value}
use Rattle.diagram_meaning.specs.Rows.{is_triggered, is_system}
use Rattle.modules_profile.specs.declared.ChildUse.{ChildUse}
use Rattle.modules_profile.specs.declared.LocalRow.{LocalRow}
use Rattle.modules_profile.specs.LocalSystem.{LocalSystem}
use Rattle.modules_profile.proofs.lemmas.Members.{in-none, in-first, in-rest, in-cases, of-map, of-filter, of-enumerate, at-in, at-map, map-at}
use Rattle.modules_profile.proofs.lemmas.OwnRows.{differ-at, of-flat_map}
use Rattle.emit_shape.specs.Delays.{is_single, is_line}
use Rattle.emit_shape.specs.Slots.{Slot, value, memory, ring_items, ring_place, ring_taken, trigger, counter, instance, filler, ring_slots, own_slots, or_filler, CounterField, AreSlots}
use Rattle.right_relation.specs.SoundLocals.{IsSoundLocal}
use Rattle.right_relation.proofs.lemmas.HeldOutports.{one-row}
use Rattle.right_relation.proofs.Totals.{total, total-is, total-map, total-le, total-kept}

-- ---- Sums

abbrev pub one-if : Bool → ℕ
one-if t = cond t 1 0

total-append : {A : Type 0} (f : A → ℕ) (xs ys : List A) → total f (xs ++ ys) ≡ total f xs + total f ys
total-append f [] ys = omega arith
total-append f (x ∷ xs) ys = let rest = total-append f xs ys in omega (arith, rest)

total-none : {A : Type 0} (f : A → ℕ) (xs : List A) → ((x : A) → Contains xs x → f x ≡ 0) → total f xs ≡ 0
total-none f [] none = refl
total-none f (x ∷ xs) none =
    let here = none x (in-first x xs) in let rest = total-none f xs (λ y h. none y (in-rest x y xs h)) in omega (arith, here, rest)

-- a member counts
pub counted-at : {A : Type 0} (f : A → ℕ) (xs : List A) (k : ℕ) (x : A) → slice_get xs k ≡ Some x → f x ≤ total f xs
counted-at f [] k x at = absurd (none-some x at)
counted-at f (y ∷ xs) zero x at = let same = ap f (same_Some y x at) in omega (arith, same)
counted-at f (y ∷ xs) (suc k) x at = let rest = counted-at f xs k x at in omega (arith, rest)

-- where what passes is at one place
at-most-one : {A : Type 0} (test : A → Bool) (xs : List A) →
    ((i k : ℕ) (x y : A) → slice_get xs i ≡ Some x → slice_get xs k ≡ Some y → test x ≡ true → test y ≡ true → i ≡ k) →
    total (λ x. one-if (test x)) xs ≤ 1
at-most-one test [] one = omega arith
at-most-one {A} test (x ∷ xs) one =
    by (test x) refl
    (at-most-one test xs (λ i k y z a b s t. let same : suc i ≡ suc k = one (suc i) (suc k) y z a b s t in omega (arith, same)))
  where
    others : test x ≡ true → total (λ y. one-if (test y)) xs ≡ 0
    others passes = total-none (λ y. one-if (test y)) xs (λ y h. none y (at-in xs y h) (test y) refl)
      where
        none : (y : A) → (k : ℕ) × (slice_get xs k ≡ Some y) → (t : Bool) → test y ≡ t → one-if t ≡ 0
        none y (k, at) true e = absurd (let same : 0 ≡ suc k = one 0 (suc k) x y refl at passes e in omega (arith, same))
        none y (k, at) false e = refl

    by : (t : Bool) → test x ≡ t → total (λ y. one-if (test y)) xs ≤ 1 → one-if t + total (λ y. one-if (test y)) xs ≤ 1
    by true e few = let none = others e in omega (arith, none)
    by false e few = omega (arith, few)

total-enumerate : {A : Type 0} (f : A → ℕ) (n : ℕ) (xs : List A) → total (λ (e : ℕ × A). f e.1) (enumerate_from n xs) ≡ total f xs
total-enumerate f n [] = refl
total-enumerate f n (x ∷ xs) = ap (λ k. f x + k) (total-enumerate f (n + 1) xs)

-- ---- What a slot counts for

-- the value of row b
abbrev pub one-value : ℕ → Slot → ℕ
one-value b (value r) = one-if (r.row == b)
one-value b _ = 0

-- the child of row e
abbrev pub one-child : ℕ → Slot → ℕ
one-child e (instance k u) = one-if (is_system u.header.row e)
one-child e _ = 0

pub system-row : (o : Option ℕ) (e : ℕ) → is_system o e ≡ true → o ≡ Some e
system-row None e h = absurd (true≢false (sym h))
system-row (Some s) e h = ap Some (eqb-true s e h)

module _ (local : LocalSystem) where
  -- what a slot is
  abbrev pub SlotIs : Slot → Type 0
  SlotIs (value r) = Contains local.rows r × (has_value r.kind ≡ true)
  SlotIs (memory r) = Contains local.rows r × (is_single r.op ≡ true)
  SlotIs (ring_items r) = Contains local.rows r × (is_line r.op ≡ true)
  SlotIs (ring_place r) = Contains local.rows r × (is_line r.op ≡ true)
  SlotIs (ring_taken r) = Contains local.rows r × (is_line r.op ≡ true)
  SlotIs trigger = ⊤
  SlotIs (counter name type) = ⊤
  SlotIs (instance k u) = slice_get local.children k ≡ Some u
  SlotIs filler = ⊤

  abbrev values : List Slot
  values = map value (filter (λ (r : LocalRow). has_value r.kind) local.rows)

  abbrev memories : List Slot
  memories = map memory (filter (λ (r : LocalRow). is_single r.op) local.rows)

  abbrev rings : List Slot
  rings = flat_map ring_slots (filter (λ (r : LocalRow). is_line r.op) local.rows)

  abbrev triggers : List Slot
  triggers = if is_triggered local.control then trigger ∷ [] else []

  abbrev instances : List Slot
  instances = map (λ (e : ℕ × ChildUse). instance e.0 e.1) (enumerate_from 0 local.children)

  of-trigger : (t : Bool) (x : Slot) → Contains (if t then trigger ∷ [] else []) x → trigger ≡ x
  of-trigger true x h = elim (in-cases trigger x [] h) [ inl same ↦ same | inr more ↦ absurd (in-none x more) ]
  of-trigger false x h = absurd (in-none x h)

  -- one of three
  of-ring : (P : Slot → Type 0) (r : LocalRow) (x : Slot) → P (ring_items r) → P (ring_place r) → P (ring_taken r) →
      Contains (ring_slots r) x → P x
  of-ring P r x a b c h = elim (in-cases (ring_items r) x (ring_place r ∷ ring_taken r ∷ []) h) [
    | inl same ↦ subst P same a
    | inr more ↦ elim (in-cases (ring_place r) x (ring_taken r ∷ []) more) [
      | inl same ↦ subst P same b
      | inr last ↦ elim (in-cases (ring_taken r) x [] last) [ inl same ↦ subst P same c | inr none ↦ absurd (in-none x none) ]
    ]
  ]

  own-is : (x : Slot) → Contains (own_slots local) x → SlotIs x
  own-is x h = elim (Contains-append_cases (values ++ memories ++ rings ++ triggers) instances x h) [
    | inl first ↦ elim (Contains-append_cases (values ++ memories ++ rings) triggers x first) [
      | inl first ↦ elim (Contains-append_cases (values ++ memories) rings x first) [
        | inl first ↦ elim (Contains-append_cases values memories x first) [
          | inl here ↦
              let m = of-map value (filter (λ (r : LocalRow). has_value r.kind) local.rows) x here in
              subst SlotIs m.2 (of-filter (λ (r : LocalRow). has_value r.kind) local.rows m.0 m.1)
          | inr here ↦
              let m = of-map memory (filter (λ (r : LocalRow). is_single r.op) local.rows) x here in
              subst SlotIs m.2 (of-filter (λ (r : LocalRow). is_single r.op) local.rows m.0 m.1)
        ]
        | inr here ↦
            let m = of-flat_map ring_slots (filter (λ (r : LocalRow). is_line r.op) local.rows) x here in
            let own = of-filter (λ (r : LocalRow). is_line r.op) local.rows m.0 m.1 in
            of-ring SlotIs m.0 x own own own m.2
      ]
      | inr here ↦ subst SlotIs (of-trigger (is_triggered local.control) x here) tt
    ]
    | inr here ↦
        let m = of-map (λ (e : ℕ × ChildUse). instance e.0 e.1) (enumerate_from 0 local.children) x here in
        let at = of-enumerate 0 local.children m.0 m.1 in
        let place : at.0 ≡ m.0.0 = (let same : at.0 ≡ 0 + at.0 = omega arith in same) ∙ at.1 in
        subst SlotIs m.2 (subst (λ k. slice_get local.children k ≡ Some m.0.1) place at.2)
  ]

  filled-is : (xs : List Slot) (x : Slot) → ((y : Slot) → Contains xs y → SlotIs y) → Contains (or_filler xs) x → SlotIs x
  filled-is [] x each h = elim (in-cases filler x [] h) [ inl same ↦ subst SlotIs same tt | inr more ↦ absurd (in-none x more) ]
  filled-is (y ∷ ys) x each h = each x h

  module _ (slots : List Slot) (are : AreSlots local slots) where
    abbrev counters : List Slot
    counters = map (λ (c : CounterField). counter c.name c.type) are.counters

    abbrev all : List Slot
    all = own_slots local ++ counters

    each-is : (x : Slot) → Contains all x → SlotIs x
    each-is x h = elim (Contains-append_cases (own_slots local) counters x h) [
      | inl own ↦ own-is x own
      | inr other ↦ let m = of-map (λ (c : CounterField). counter c.name c.type) are.counters x other in subst SlotIs m.2 tt
    ]

    pub slot-is : (x : Slot) → Contains slots x → SlotIs x
    slot-is x h = filled-is all x each-is (Contains-permutation slots (or_filler all) x (IsPermutation-sym (or_filler all) slots are.all) h)

    -- ---- How many there are

    total-filled : (f : Slot → ℕ) (xs : List Slot) → f filler ≡ 0 → total f (or_filler xs) ≡ total f xs
    total-filled f [] none = omega (arith, none)
    total-filled f (x ∷ xs) none = refl

    total-slots : (f : Slot → ℕ) → f filler ≡ 0 → total f slots ≡ total f (own_slots local) + total f counters
    total-slots f none =
        sym (total-is f slots) ∙ sum_by-IsPermutation f (or_filler all) slots are.all ∙ total-is f (or_filler all) ∙ total-filled f all none
        ∙ total-append f (own_slots local) counters

    total-own : (f : Slot → ℕ) →
        total f (own_slots local) ≡ total f values + total f memories + total f rings + total f triggers + total f instances
    total-own f =
        let a = total-append f (values ++ memories ++ rings ++ triggers) instances in
        let b = total-append f (values ++ memories ++ rings) triggers in
        let c = total-append f (values ++ memories) rings in
        let e = total-append f values memories in
        omega (arith, a, b, c, e)

    -- what counts nothing elsewhere
    no-memories : (f : Slot → ℕ) → ((r : LocalRow) → f (memory r) ≡ 0) → total f memories ≡ 0
    no-memories f none = total-none f memories (λ x h.
        let m = of-map memory (filter (λ (r : LocalRow). is_single r.op) local.rows) x h in ap f (sym m.2) ∙ none m.0)

    no-rings : (f : Slot → ℕ) → ((r : LocalRow) → f (ring_items r) ≡ 0) → ((r : LocalRow) → f (ring_place r) ≡ 0) →
        ((r : LocalRow) → f (ring_taken r) ≡ 0) → total f rings ≡ 0
    no-rings f a b c = total-none f rings (λ x h.
        let m = of-flat_map ring_slots (filter (λ (r : LocalRow). is_line r.op) local.rows) x h in
        of-ring (λ y. f y ≡ 0) m.0 x (a m.0) (b m.0) (c m.0) m.2)

    no-triggers : (f : Slot → ℕ) → f trigger ≡ 0 → total f triggers ≡ 0
    no-triggers f none = total-none f triggers (λ x h. ap f (sym (of-trigger (is_triggered local.control) x h)) ∙ none)

    no-counters : (f : Slot → ℕ) → ((c : CounterField) → f (counter c.name c.type) ≡ 0) → total f counters ≡ 0
    no-counters f none = total-none f counters (λ x h.
        let m = of-map (λ (c : CounterField). counter c.name c.type) are.counters x h in ap f (sym m.2) ∙ none m.0)

    module _ (sound : IsSoundLocal local) where
      one-row-of : (b : ℕ) → total (λ (r : LocalRow). one-if (r.row == b)) local.rows ≤ 1
      one-row-of b = at-most-one (λ (r : LocalRow). r.row == b) local.rows (λ i k r q at to s t.
          let number : LocalRow → ℕ = λ (r : LocalRow). r.row in
          differ-at (map number local.rows) i k b sound.lawful.rows_differ
          (at-map number local.rows i r at ∙ ap Some (eqb-true r.row b s)) (at-map number local.rows k q to ∙ ap Some (eqb-true q.row b t)))

      pub value-once : (b : ℕ) → total (one-value b) slots ≤ 1
      value-once b =
          let own = total-slots (one-value b) refl in
          let parts = total-own (one-value b) in
          let rows =
          total-map (one-value b) value (filter (λ (r : LocalRow). has_value r.kind) local.rows)
          ∙ total-kept (λ (r : LocalRow). one-value b (value r)) (λ (r : LocalRow). has_value r.kind) local.rows in
          let fewer = total-le (λ (r : LocalRow). cond (has_value r.kind) (one-value b (value r)) 0)
          (λ (r : LocalRow). one-value b (value r)) local.rows (λ r h. less (has_value r.kind) (one-value b (value r))) in
          let one = one-row-of b in
          let second = no-memories (one-value b) (λ r. refl) in
          let third = no-rings (one-value b) (λ r. refl) (λ r. refl) (λ r. refl) in
          let fourth = no-triggers (one-value b) refl in
          let last = no-counters (one-value b) (λ c. refl) in
          let fifth = total-none (one-value b) instances (λ x h.
          let m = of-map (λ (e : ℕ × ChildUse). instance e.0 e.1) (enumerate_from 0 local.children) x h in ap (one-value b) (sym m.2)) in
          omega (arith, own, parts, rows, fewer, one, second, third, fourth, fifth, last)
        where
          less : (t : Bool) (n : ℕ) → cond t n 0 ≤ n
          less true n = omega arith
          less false n = omega arith

      -- a row without a value has none
      pub value-never : (r : LocalRow) → Contains local.rows r → has_value r.kind ≡ false → total (one-value r.row) slots ≡ 0
      value-never r own none = total-none (one-value r.row) slots (λ x h. by x (slot-is x h))
        where
          other : (q : LocalRow) → SlotIs (value q) → (t : Bool) → (q.row == r.row) ≡ t → one-if t ≡ 0
          other q is true e =
              let same : q ≡ r = one-row local sound q r is.0 own (eqb-true q.row r.row e) in
              absurd (true≢false (sym is.1 ∙ ap (λ (q : LocalRow). has_value q.kind) same ∙ none))
          other q is false e = refl

          by : (x : Slot) → SlotIs x → one-value r.row x ≡ 0
          by (value q) is = other q is (q.row == r.row) refl
          by _ is = refl

      one-child-of : (e : ℕ) → total (λ (u : ChildUse). one-if (is_system u.header.row e)) local.children ≤ 1
      one-child-of e = at-most-one (λ (u : ChildUse). is_system u.header.row e) local.children (λ i k u w at to s t.
          differ-at sound.lawful.numbers i k e sound.lawful.children_differ (number i u at s) (number k w to t))
        where
          number : (k : ℕ) (u : ChildUse) → slice_get local.children k ≡ Some u → is_system u.header.row e ≡ true →
              slice_get sound.lawful.numbers k ≡ Some e
          number k u at is =
              let row : slice_get (map (λ (u : ChildUse). u.header.row) local.children) k ≡ Some (Some e) =
              at-map (λ (u : ChildUse). u.header.row) local.children k u at ∙ ap Some (system-row u.header.row e is) in
              let n = map-at Some sound.lawful.numbers k (Some e) (ap (λ os. slice_get os k) (sym sound.lawful.have_numbers) ∙ row) in
              n.1 ∙ n.2

      pub child-once : (e : ℕ) → total (one-child e) slots ≤ 1
      child-once e =
          let own = total-slots (one-child e) refl in
          let parts = total-own (one-child e) in
          let first = total-none (one-child e) values (λ x h.
          let m = of-map value (filter (λ (r : LocalRow). has_value r.kind) local.rows) x h in ap (one-child e) (sym m.2)) in
          let second = no-memories (one-child e) (λ r. refl) in
          let third = no-rings (one-child e) (λ r. refl) (λ r. refl) (λ r. refl) in
          let fourth = no-triggers (one-child e) refl in
          let children =
          total-map (one-child e) (λ (x : ℕ × ChildUse). instance x.0 x.1) (enumerate_from 0 local.children)
          ∙ total-enumerate (λ (u : ChildUse). one-if (is_system u.header.row e)) 0 local.children in
          let one = one-child-of e in
          let last = no-counters (one-child e) (λ c. refl) in
          omega (arith, own, parts, first, second, third, fourth, children, one, last)
