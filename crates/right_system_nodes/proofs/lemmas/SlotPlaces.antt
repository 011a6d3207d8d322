-- Where the slots of a system's struct are.
use Rattle.std.specs.Prelude.{◌≡◌, ℕ, zero, suc, ◌+◌, ◌*◌, Bool, true, false, if◌then◌else◌, List, [], ◌∷◌, ◌++◌, map, flat_map, filter, length, slice_get, unwrap_or, Contains, Some, refl}
use Rattle.std.specs.List.{enumerate_from}
use Rattle.std.proofs.Common.{sym, ap, subst, ◌∙◌, arith, inl, inr}
use Rattle.std.proofs.lemmas.List.{length-append, length-map}
use Rattle.std.proofs.lemmas.Option.{same_Some, none-some}
use Rattle.diagram_blocks.specs.Meaning.{has_value}
use Rattle.diagram_meaning.specs.Rows.{is_triggered}
use Rattle.modules_profile.specs.declared.local.ChildUse.{ChildUse}
use Rattle.modules_profile.specs.declared.local.LocalRow.{LocalRow}
use Rattle.modules_profile.specs.LocalSystem.{LocalSystem}
use Rattle.modules_profile.specs.LawfulLocals.{IsLocal}
use Rattle.modules_profile.proofs.lemmas.Members.{at-append, at-map, map-at, of-filter, in-filter, in-at, at-in}
use Rattle.modules_schedule.specs.SystemSchedule.{SystemSchedule}
use Rattle.emit_shape.specs.Delays.{is_single, is_line}
use Rattle.emit_shape.specs.Names.{counter_name}
use Rattle.emit_shape.specs.Slots.{Slot, value, memory, ring_items, ring_place, ring_taken, trigger, counter, instance, filler, ring_slots, own_slots, or_filler}
use Rattle.emit_system_spec.specs.Fields.{value_rows, single_rows, line_rows, numbers, place_among, value_field, memory_field, ring_field, trigger_field, child_field, shared_groups, counter_slot, code_slots}
use Rattle.right_system_nodes.proofs.lemmas.SlotLists.{left-at, right-at, enumerate-at, enumerate-long, at-enumerate, apart-different, apart-kept, first-at}

-- ---- Rings, three slots each

length-rings : (rows : List LocalRow) → length (flat_map ring_slots rows) ≡ 3 * length rows
length-rings [] = refl
length-rings (r ∷ rows) =
    let rest = length-rings rows in let parts = length-append (ring_slots r) (flat_map ring_slots rows) in
    omega (arith, rest, parts)

-- so many places further in the slots of a ring
third : (i : ℕ) (r : LocalRow) (slots : List Slot) → slice_get (ring_slots r ++ slots) (3 + i) ≡ slice_get slots i
third i r slots = let next : 3 + i ≡ suc (suc (suc i)) = omega arith in ap (slice_get (ring_slots r ++ slots)) next

ring-at : (rows : List LocalRow) (k i : ℕ) (r : LocalRow) (x : Slot) → slice_get rows k ≡ Some r →
    slice_get (ring_slots r) i ≡ Some x →
    slice_get (flat_map ring_slots rows) (3 * k + i) ≡ Some x
ring-at [] k i r x at place = absurd (none-some r at)
ring-at (q ∷ rows) zero i r x at place =
    (let same : 3 * 0 + i ≡ i = omega arith in ap (slice_get (ring_slots q ++ flat_map ring_slots rows)) same)
    ∙ left-at (ring_slots q) (flat_map ring_slots rows) i x
    (ap (λ (p : LocalRow). slice_get (ring_slots p) i) (same_Some q r at) ∙ place)
ring-at (q ∷ rows) (suc k) i r x at place =
    (let next : 3 * suc k + i ≡ 3 + (3 * k + i) = omega arith in ap (slice_get (ring_slots q ++ flat_map ring_slots rows)) next)
    ∙ third (3 * k + i) q (flat_map ring_slots rows) ∙ ring-at rows k i r x at place

-- a slot of the ring of the row at a place
record IsOfRing (rows : List LocalRow) (n : ℕ) (x : Slot) : Type 0 where
  pub row : LocalRow
  pub at : ℕ
  pub part : ℕ
  pub is_row : slice_get rows at ≡ Some row
  pub place : 3 * at + part ≡ n
  pub is_part : slice_get (ring_slots row) part ≡ Some x

at-ring : (rows : List LocalRow) (n : ℕ) (x : Slot) → slice_get (flat_map ring_slots rows) n ≡ Some x → IsOfRing rows n x
at-ring [] n x at = absurd (none-some x at)
at-ring (r ∷ rows) n x at = elim (at-append (ring_slots r) (flat_map ring_slots rows) n x at) [
  | inl here ↦ record { row = r; at = 0; part = n; is_row = refl; place = omega arith; is_part = here }
  | inr there ↦
      let rest = at-ring rows there.0 x there.2 in
      let far = there.1 in let place = rest.place in
      record {
        row = rest.row;
        at = suc rest.at;
        part = rest.part;
        is_row = rest.is_row;
        place =
            omega (arith, far, place);
        is_part = rest.is_part;
      }
]

-- ---- All slots

module _ (local : LocalSystem) (schedule : SystemSchedule) where
  abbrev values : List Slot
  values = map value (value_rows local)

  abbrev memories : List Slot
  memories = map memory (single_rows local)

  abbrev rings : List Slot
  rings = flat_map ring_slots (line_rows local)

  abbrev triggers : List Slot
  triggers = if is_triggered local.control then trigger ∷ [] else []

  abbrev instances : List Slot
  instances = map (λ (e : ℕ × ChildUse). instance e.0 e.1) (enumerate_from 0 local.children)

  abbrev counters : List Slot
  counters = map counter_slot (shared_groups schedule)

  abbrev slots : List Slot
  slots = code_slots local schedule

  -- where a slot of each kind is
  abbrev pub Stands : ℕ → Slot → Type 0
  Stands f (value r) = Contains local.rows r × (has_value r.kind ≡ true) × (value_field local r.row ≡ f)
  Stands f (memory r) = Contains local.rows r × (is_single r.op ≡ true) × (memory_field local r.row ≡ f)
  Stands f (ring_items r) = Contains local.rows r × (is_line r.op ≡ true) × (ring_field local r.row ≡ f)
  Stands f (ring_place r) = Contains local.rows r × (is_line r.op ≡ true) × (ring_field local r.row + 1 ≡ f)
  Stands f (ring_taken r) = Contains local.rows r × (is_line r.op ≡ true) × (ring_field local r.row + 2 ≡ f)
  Stands f trigger = (is_triggered local.control ≡ true) × (trigger_field local ≡ f)
  Stands f (counter name type) =
      (k : ℕ) × (g : ℕ) × (slice_get (shared_groups schedule) k ≡ Some g) × (f ≡ child_field local (length local.children) + k)
      × (name ≡ counter_name (suc g))
  Stands f (instance k u) = (slice_get local.children k ≡ Some u) × (child_field local k ≡ f)
  Stands f filler = f ≡ 0

  length-triggers : (t : Bool) → length (if t then trigger ∷ [] else []) ≡ (if t then 1 else 0)
  length-triggers true = refl
  length-triggers false = refl

  length-three : length (values ++ memories ++ rings) ≡ trigger_field local
  length-three =
      let a = length-append (values ++ memories) rings in let b = length-append values memories in
      let v = length-map (value_rows local) value in let s = length-map (single_rows local) memory in
      let l = length-rings (line_rows local) in
      omega (arith, a, b, v, s, l)

  length-four : length (values ++ memories ++ rings ++ triggers)
      ≡ trigger_field local + (if is_triggered local.control then 1 else 0)
  length-four =
      let a = length-append (values ++ memories ++ rings) triggers in let b = length-three in
      let t = length-triggers (is_triggered local.control) in
      omega (arith, a, b, t)

  length-own : length (own_slots local) ≡ child_field local (length local.children)
  length-own =
      let a = length-append (values ++ memories ++ rings ++ triggers) instances in let b = length-four in
      let e = length-map (enumerate_from 0 local.children) (λ (e : ℕ × ChildUse). instance e.0 e.1) in let c =
      enumerate-long 0 local.children in
      omega (arith, a, b, e, c)

  module _ (lawful : IsLocal local) where
    place : (test : LocalRow → Bool) (k : ℕ) (r : LocalRow) → slice_get (filter test local.rows) k ≡ Some r →
        place_among (filter test local.rows) r.row ≡ k
    place test k r at =
        ap (λ o. unwrap_or o 0) (first-at (λ (r : LocalRow). r.row) 0 (filter test local.rows) k r
        (apart-kept (λ (r : LocalRow). r.row) test local.rows (apart-different (numbers local.rows) lawful.rows_differ)) at)
        ∙ (let same : 0 + k ≡ k = omega arith in same)

    kept : (test : LocalRow → Bool) (k : ℕ) (r : LocalRow) → slice_get (filter test local.rows) k ≡ Some r →
        Contains local.rows r × (test r ≡ true)
    kept test k r at = of-filter test local.rows r (in-at (filter test local.rows) k r at)

    of-values : (f : ℕ) (x : Slot) → slice_get values f ≡ Some x → Stands f x
    of-values f x at =
        let m = map-at value (value_rows local) f x at in
        let own = kept (λ (r : LocalRow). has_value r.kind) f m.0 m.1 in
        subst (Stands f) m.2 (own.0, own.1, place (λ (r : LocalRow). has_value r.kind) f m.0 m.1)

    of-memories : (f : ℕ) (x : Slot) → slice_get memories f ≡ Some x → Stands (length (value_rows local) + f) x
    of-memories f x at =
        let m = map-at memory (single_rows local) f x at in
        let own = kept (λ (r : LocalRow). is_single r.op) f m.0 m.1 in
        subst (Stands (length (value_rows local) + f)) m.2
        (own.0, own.1, ap (λ k. length (value_rows local) + k) (place (λ (r : LocalRow). is_single r.op) f m.0 m.1))

    of-rings : (f : ℕ) (x : Slot) → slice_get rings f ≡ Some x →
        Stands (length (value_rows local) + length (single_rows local) + f) x
    of-rings f x at =
        let ring = at-ring (line_rows local) f x at in
        let own = kept (λ (r : LocalRow). is_line r.op) ring.at ring.row ring.is_row in
        by ring.row ring.part ring.at own.0 own.1 (place
        (λ (r : LocalRow). is_line r.op) ring.at ring.row ring.is_row) ring.place ring.is_part
      where
        by : (r : LocalRow) (part k : ℕ) → Contains local.rows r → is_line r.op ≡ true → place_among (line_rows local) r.row ≡ k →
            3 * k + part ≡ f → slice_get (ring_slots r) part ≡ Some x →
            Stands (length (value_rows local) + length (single_rows local) + f) x
        by r zero k own line first whole at =
            subst (Stands (length (value_rows local) + length (single_rows local) + f)) (same_Some (ring_items r) x at)
            (own, line, omega (arith, first, whole))
        by r (suc zero) k own line first whole at =
            subst (Stands (length (value_rows local) + length (single_rows local) + f)) (same_Some (ring_place r) x at)
            (own, line, omega (arith, first, whole))
        by r (suc (suc zero)) k own line first whole at =
            subst (Stands (length (value_rows local) + length (single_rows local) + f)) (same_Some (ring_taken r) x at)
            (own, line, omega (arith, first, whole))
        by r (suc (suc (suc n))) k own line first whole at = absurd (none-some x at)

    of-triggers : (f : ℕ) (x : Slot) → slice_get triggers f ≡ Some x → Stands (trigger_field local + f) x
    of-triggers f x at = by (is_triggered local.control) refl at
      where
        first : (f : ℕ) → slice_get (trigger ∷ []) f ≡ Some x → (trigger ≡ x) × (f ≡ 0)
        first zero at = (same_Some trigger x at, refl)
        first (suc n) at = absurd (none-some x at)

        by : (t : Bool) → is_triggered local.control ≡ t → slice_get (if t then trigger ∷ [] else []) f ≡ Some x →
            Stands (trigger_field local + f) x
        by true is at =
            let here = first f at in let none = here.1 in
            subst (Stands (trigger_field local + f)) here.0
            (is, (let same : trigger_field local ≡ trigger_field local + f = omega (arith, none) in same))
        by false is at = absurd (none-some x at)

    of-instances : (f : ℕ) (x : Slot) → slice_get instances f ≡ Some x →
        Stands (trigger_field local + (if is_triggered local.control then 1 else 0) + f) x
    of-instances f x at =
        let m = map-at (λ (e : ℕ × ChildUse). instance e.0 e.1) (enumerate_from 0 local.children) f x at in
        let e = at-enumerate 0 local.children f m.0 m.1 in
        let number : f ≡ m.0.0 = (let same : f ≡ 0 + f = omega arith in same) ∙ e.0 in
        subst (Stands (trigger_field local + (if is_triggered local.control then 1 else 0) + f)) m.2
        (subst (λ k. slice_get local.children k ≡ Some m.0.1) number e.1, ap (child_field local) (sym number))

    of-counters : (f k : ℕ) (x : Slot) → f ≡ child_field local (length local.children) + k → slice_get counters k ≡ Some x → Stands f x
    of-counters f k x is at = let m = map-at counter_slot (shared_groups schedule) k x at in subst (Stands f) m.2 (k, m.0, m.1, is, refl)

    of-all : (f : ℕ) (x : Slot) → slice_get (own_slots local ++ counters) f ≡ Some x → Stands f x
    of-all f x at = elim (at-append (own_slots local) counters f x at) [
      | inr last ↦ of-counters f last.0 x (sym last.1 ∙ ap (λ n. n + last.0) length-own) last.2
      | inl own ↦ elim (at-append (values ++ memories ++ rings ++ triggers) instances f x own) [
        | inr there ↦ subst (λ g. Stands g x) (ap (λ n. n + there.0) (sym length-four) ∙ there.1) (of-instances there.0 x there.2)
        | inl own ↦ elim (at-append (values ++ memories ++ rings) triggers f x own) [
          | inr there ↦ subst (λ g. Stands g x) (ap (λ n. n + there.0) (sym length-three) ∙ there.1) (of-triggers there.0 x there.2)
          | inl own ↦ elim (at-append (values ++ memories) rings f x own) [
            | inr there ↦
                let far = there.1 in
                let long = length-append values memories in let v = length-map (value_rows local) value in
                let s = length-map (single_rows local) memory in
                let same : length (value_rows local) + length (single_rows local) + there.0 ≡ f = omega (arith, far, long, v, s) in
                subst (λ g. Stands g x) same (of-rings there.0 x there.2)
            | inl own ↦ elim (at-append values memories f x own) [
              | inr there ↦
                  let far = there.1 in let v = length-map (value_rows local) value in
                  let same : length (value_rows local) + there.0 ≡ f = omega (arith, far, v) in
                  subst (λ g. Stands g x) same (of-memories there.0 x there.2)
              | inl own ↦ of-values f x own
            ]
          ]
        ]
      ]
    ]

    filled : (xs : List Slot) → ((f : ℕ) (x : Slot) → slice_get xs f ≡ Some x → Stands f x) → (f : ℕ) (x : Slot) →
        slice_get (or_filler xs) f ≡ Some x → Stands f x
    filled [] each zero x at = subst (Stands 0) (same_Some filler x at) refl
    filled [] each (suc f) x at = absurd (none-some x at)
    filled (y ∷ ys) each f x at = each f x at

    -- what is at a place is where it should be
    pub stands : (f : ℕ) (x : Slot) → slice_get slots f ≡ Some x → Stands f x
    stands = filled (own_slots local ++ counters) of-all

    -- ---- What is there

    into-filled : (xs : List Slot) (f : ℕ) (x : Slot) → slice_get xs f ≡ Some x → slice_get (or_filler xs) f ≡ Some x
    into-filled [] f x at = absurd (none-some x at)
    into-filled (y ∷ ys) f x at = at

    own-in : (f : ℕ) (x : Slot) → slice_get (own_slots local) f ≡ Some x → slice_get slots f ≡ Some x
    own-in f x at = into-filled (own_slots local ++ counters) f x (left-at (own_slots local) counters f x at)

    three-in : (f : ℕ) (x : Slot) → slice_get (values ++ memories ++ rings) f ≡ Some x → slice_get slots f ≡ Some x
    three-in f x at =
        own-in f x (left-at (values ++ memories ++ rings ++ triggers) instances f x
        (left-at (values ++ memories ++ rings) triggers f x at))

    found : (test : LocalRow → Bool) (r : LocalRow) → Contains local.rows r → test r ≡ true →
        slice_get (filter test local.rows) (place_among (filter test local.rows) r.row) ≡ Some r
    found test r own passes =
        let at = at-in (filter test local.rows) r (in-filter test local.rows r own passes) in
        ap (slice_get (filter test local.rows)) (place test at.0 r at.1) ∙ at.1

    pub value-at : (r : LocalRow) → Contains local.rows r → has_value r.kind ≡ true →
        slice_get slots (value_field local r.row) ≡ Some (value r)
    value-at r own has =
        let f = value_field local r.row in
        three-in f (value r) (left-at (values ++ memories) rings f (value r) (left-at values memories f (value r)
        (at-map value (value_rows local) f r (found (λ (r : LocalRow). has_value r.kind) r own has))))

    pub memory-at : (r : LocalRow) → Contains local.rows r → is_single r.op ≡ true →
        slice_get slots (memory_field local r.row) ≡ Some (memory r)
    memory-at r own single =
        let k = place_among (single_rows local) r.row in
        let f = memory_field local r.row in
        let there = right-at values memories k (memory r)
        (at-map memory (single_rows local) k r (found (λ (r : LocalRow). is_single r.op) r own single)) in
        let long = length-map (value_rows local) value in
        three-in f (memory r) (left-at (values ++ memories) rings f (memory r)
        (ap (slice_get (values ++ memories)) (ap (λ n. n + k) (sym long)) ∙ there))

    ring-part : (r : LocalRow) (i : ℕ) (x : Slot) → Contains local.rows r → is_line r.op ≡ true →
        slice_get (ring_slots r) i ≡ Some x →
        slice_get slots (ring_field local r.row + i) ≡ Some x
    ring-part r i x own line part =
        let k = place_among (line_rows local) r.row in
        let there = right-at (values ++ memories) rings (3 * k + i) x
        (ring-at (line_rows local) k i r x (found (λ (r : LocalRow). is_line r.op) r own line) part) in
        let long = length-append values memories in let v = length-map (value_rows local) value in
        let s = length-map (single_rows local) memory in
        let same : ring_field local r.row + i ≡ length (values ++ memories) + (3 * k + i) = omega (arith, long, v, s) in
        three-in (ring_field local r.row + i) x (ap (slice_get (values ++ memories ++ rings)) same ∙ there)

    pub ring_items-at : (r : LocalRow) → Contains local.rows r → is_line r.op ≡ true →
        slice_get slots (ring_field local r.row) ≡ Some (ring_items r)
    ring_items-at r own line =
        (let same : ring_field local r.row ≡ ring_field local r.row + 0 = omega arith in ap (slice_get slots) same)
        ∙ ring-part r 0 (ring_items r) own line refl

    pub ring_place-at : (r : LocalRow) → Contains local.rows r → is_line r.op ≡ true →
        slice_get slots (ring_field local r.row + 1) ≡ Some (ring_place r)
    ring_place-at r own line = ring-part r 1 (ring_place r) own line refl

    pub ring_taken-at : (r : LocalRow) → Contains local.rows r → is_line r.op ≡ true →
        slice_get slots (ring_field local r.row + 2) ≡ Some (ring_taken r)
    ring_taken-at r own line = ring-part r 2 (ring_taken r) own line refl

    pub trigger-at : is_triggered local.control ≡ true → slice_get slots (trigger_field local) ≡ Some trigger
    trigger-at is =
        let there = right-at (values ++ memories ++ rings) triggers 0 trigger
        (ap (λ t. slice_get (if t then trigger ∷ [] else []) 0) is) in
        let long = length-three in
        let same : trigger_field local ≡ length (values ++ memories ++ rings) + 0 = omega (arith, long) in
        own-in (trigger_field local) trigger (left-at (values ++ memories ++ rings ++ triggers) instances
        (trigger_field local) trigger
        (ap (slice_get (values ++ memories ++ rings ++ triggers)) same ∙ there))

    pub instance-at : (k : ℕ) (u : ChildUse) → slice_get local.children k ≡ Some u →
        slice_get slots (child_field local k) ≡ Some (instance k u)
    instance-at k u at =
        let e = enumerate-at 0 local.children k u at in
        let zeroth : 0 + k ≡ k = omega arith in
        let there = right-at (values ++ memories ++ rings ++ triggers) instances k (instance k u)
        (at-map (λ (e : ℕ × ChildUse). instance e.0 e.1) (enumerate_from 0 local.children) k (0 + k, u) e
        ∙ ap (λ n. Some (instance n u)) zeroth) in
        own-in (child_field local k) (instance k u) (ap (slice_get (own_slots local)) (ap (λ n. n + k) (sym length-four)) ∙ there)

    pub counter-at : (k g : ℕ) → slice_get (shared_groups schedule) k ≡ Some g →
        slice_get slots (child_field local (length local.children) + k) ≡ Some (counter_slot g)
    counter-at k g at =
        into-filled (own_slots local ++ counters) (child_field local (length local.children) + k) (counter_slot g)
        (ap (λ n. slice_get (own_slots local ++ counters) (n + k)) (sym length-own)
        ∙ right-at (own_slots local) counters k (counter_slot g) (at-map counter_slot (shared_groups schedule) k g at))
