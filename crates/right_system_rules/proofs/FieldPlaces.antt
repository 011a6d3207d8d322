-- What is at each field of a system's struct: its values, memories, rings, what the trigger remembers, its children, its counters.
use Rattle.std.specs.Prelude.{◌≡◌, ℕ, zero, suc, ◌+◌, ◌*◌, ◌<◌, Bool, true, false, cond, if◌then◌else◌, List, [], ◌∷◌, ◌++◌, map, flat_map, length, slice_get, unwrap_or, Contains, Some}
use Rattle.std.specs.List.{enumerate_from}
use Rattle.std.proofs.Common.{refl, sym, ap, subst, ◌∙◌, arith}
use Rattle.std.proofs.lemmas.List.{length-map, length-append}
use Rattle.std.proofs.lemmas.Option.{none-some}
use Rattle.diagram_blocks.specs.Meaning.{delay_length}
use Rattle.diagram_meaning.specs.Rows.{is_triggered}
use Rattle.modules_profile.specs.declared.local.ChildUse.{ChildUse}
use Rattle.modules_profile.specs.declared.local.LocalRow.{LocalRow}
use Rattle.modules_profile.specs.LocalSystem.{LocalSystem}
use Rattle.modules_profile.proofs.lemmas.Members.{in-map, below-at, at-map, at-left, at-right}
use Rattle.modules_schedule.specs.SystemSchedule.{SystemSchedule}
use Rattle.c_syntax.specs.Tree.{FieldTree}
use Rattle.c_syntax.specs.declared.FieldKind.TheVariants.{Struct}
use Rattle.c_syntax.specs.Lawful.{IsNumberAt, IsArrayAt, IsStructAt}
use Rattle.emit_shape.specs.Names.{container}
use Rattle.emit_shape.specs.Slots.{Slot, value, memory, ring_items, ring_place, ring_taken, trigger, instance, slot_field, ring_slots, own_slots, or_filler}
use Rattle.emit_system_spec.specs.Fields.{value_rows, single_rows, line_rows, place_among, value_field, memory_field, ring_field, trigger_field, child_field, shared_groups, counter_slot, code_slots}
use Rattle.right_system_rules.proofs.Lists.{placed, at-second, long-enumerated}

-- ---- Rings

ring-at : (rows : List LocalRow) (k : ℕ) (r : LocalRow) (i : ℕ) (x : Slot) → slice_get rows k ≡ Some r →
    slice_get (ring_slots r) i ≡ Some x →
    slice_get (flat_map ring_slots rows) (3 * k + i) ≡ Some x
ring-at [] k r i x at here = absurd (none-some r at)
ring-at (q ∷ rows) zero r i x at here =
    let same : q ≡ r = cc at in
    let place : i ≡ 3 * 0 + i = omega arith in
    subst (λ j. slice_get (ring_slots q ++ flat_map ring_slots rows) j ≡ Some x) place
    (at-left (ring_slots q) (flat_map ring_slots rows) i x (subst (λ y. slice_get (ring_slots y) i ≡ Some x) (sym same) here))
ring-at (q ∷ rows) (suc k) r i x at here =
    let place : 3 + (3 * k + i) ≡ 3 * suc k + i = omega arith in
    subst (λ j. slice_get (ring_slots q ++ flat_map ring_slots rows) j ≡ Some x) place
    (at-right (ring_slots q) (flat_map ring_slots rows) (3 * k + i) x (ring-at rows k r i x at here))

rings-long : (rows : List LocalRow) → length (flat_map ring_slots rows) ≡ 3 * length rows
rings-long [] = omega arith
rings-long (r ∷ rows) = let rest = rings-long rows in omega (arith, rest)

or-filler-at : (slots : List Slot) (k : ℕ) (x : Slot) → slice_get slots k ≡ Some x → slice_get (or_filler slots) k ≡ Some x
or-filler-at [] k x at = absurd (none-some x at)
or-filler-at (s ∷ slots) k x at = at

enumerated-at : {A : Type 0} (n : ℕ) (xs : List A) (k : ℕ) (x : A) → slice_get xs k ≡ Some x →
    slice_get (enumerate_from n xs) k ≡ Some (n + k, x)
enumerated-at n [] k x at = absurd (none-some x at)
enumerated-at n (y ∷ xs) zero x at =
    let same : y ≡ x = cc at in let here : n ≡ n + 0 = omega arith in let both : (n, y) ≡ (n + 0, x) = cc in ap Some both
enumerated-at n (y ∷ xs) (suc k) x at =
    let next : n + 1 + k ≡ n + suc k = omega arith in enumerated-at (n + 1) xs k x at ∙ ap (λ m. Some (m, x)) next

-- the row of this number among rows that have it
pub among : (rows : List LocalRow) (r : LocalRow) → Contains rows r →
    (q : LocalRow) × (slice_get rows (place_among rows r.row) ≡ Some q) × (q.row ≡ r.row)
among rows r h =
    let p = placed (λ (q : LocalRow). q.row) rows 0 r.row (in-map (λ (q : LocalRow). q.row) rows r h) in
    let start : 0 + p.place ≡ p.place = omega arith in
    let place : place_among rows r.row ≡ p.place = ap (λ o. unwrap_or o 0) p.found ∙ start in
    (p.at, ap (slice_get rows) place ∙ p.stands, p.is)

module _ (local : LocalSystem) (schedule : SystemSchedule) where
  abbrev values : List Slot
  values = map value (value_rows local)

  abbrev singles : List Slot
  singles = map memory (single_rows local)

  abbrev rings : List Slot
  rings = flat_map ring_slots (line_rows local)

  abbrev triggers : List Slot
  triggers = if is_triggered local.control then trigger ∷ [] else []

  abbrev instances : List Slot
  instances = map (λ (e : ℕ × ChildUse). instance e.0 e.1) (enumerate_from 0 local.children)

  abbrev counters : List Slot
  counters = map counter_slot (shared_groups schedule)

  -- a slot of the system is a field of the struct
  abbrev pub fields : List FieldTree
  fields = map slot_field (code_slots local schedule)

  whole-at : (k : ℕ) (x : Slot) → slice_get (own_slots local ++ counters) k ≡ Some x → slice_get fields k ≡ Some (slot_field x)
  whole-at k x at = at-map slot_field (code_slots local schedule) k x (or-filler-at (own_slots local ++ counters) k x at)

  own-at : (k : ℕ) (x : Slot) → slice_get (own_slots local) k ≡ Some x → slice_get fields k ≡ Some (slot_field x)
  own-at k x at = whole-at k x (at-left (own_slots local) counters k x at)

  -- ---- Places in front of each sort

  abbrev rows : List Slot
  rows = values ++ singles

  abbrev memories : List Slot
  memories = rows ++ rings

  abbrev states : List Slot
  states = memories ++ triggers

  values-long : length values ≡ length (value_rows local)
  values-long = length-map (value_rows local) value

  rows-long : length rows ≡ length (value_rows local) + length (single_rows local)
  rows-long =
      let both = length-append values singles in let made = length-map (single_rows local) memory in omega (arith, both, made, values-long)

  memories-long : length memories ≡ trigger_field local
  memories-long = let both = length-append rows rings in omega (arith, both, rows-long, rings-long (line_rows local))

  triggers-long : length triggers ≡ (if is_triggered local.control then 1 else 0)
  triggers-long = by (is_triggered local.control)
    where
      by : (t : Bool) → length (cond t (trigger ∷ []) []) ≡ cond t 1 0
      by true = refl
      by false = refl

  states-long : length states ≡ trigger_field local + (if is_triggered local.control then 1 else 0)
  states-long = let both = length-append memories triggers in omega (arith, both, memories-long, triggers-long)

  own-long : length (own_slots local) ≡ child_field local (length local.children)
  own-long =
      let both = length-append states instances in
      let made = length-map (enumerate_from 0 local.children) (λ (e : ℕ × ChildUse). instance e.0 e.1) in
      let many = long-enumerated 0 local.children in
      omega (arith, both, made, many, states-long)

  memory-at : (k : ℕ) (x : Slot) → slice_get memories k ≡ Some x → slice_get fields k ≡ Some (slot_field x)
  memory-at k x at = own-at k x (at-left states instances k x (at-left memories triggers k x at))

  row-at : (k : ℕ) (x : Slot) → slice_get rows k ≡ Some x → slice_get fields k ≡ Some (slot_field x)
  row-at k x at = memory-at k x (at-left rows rings k x at)

  -- ---- Fields

  pub value-number : (r : LocalRow) → Contains (value_rows local) r → IsNumberAt fields (value_field local r.row)
  value-number r h =
      let q = among (value_rows local) r h in
      let k = value_field local r.row in (
        slot_field (value q.0),
        row-at k (value q.0)
            (at-left values singles k (value q.0) (at-map value (value_rows local) k q.0 q.1)),
        refl,
      )

  pub memory-number : (r : LocalRow) → Contains (single_rows local) r → IsNumberAt fields (memory_field local r.row)
  memory-number r h =
      let q = among (single_rows local) r h in
      let k = place_among (single_rows local) r.row in (
        slot_field (memory q.0),
        row-at (memory_field local r.row) (memory q.0)
            (at-second values singles (length (value_rows local)) k (memory q.0) values-long (at-map memory (single_rows local) k q.0 q.1)),
        refl,
      )

  ring-slot : (r : LocalRow) (q : LocalRow) (i : ℕ) (x : Slot) →
      slice_get (line_rows local) (place_among (line_rows local) r.row) ≡ Some q → slice_get (ring_slots q) i ≡ Some x →
      slice_get fields (ring_field local r.row + i) ≡ Some (slot_field x)
  ring-slot r q i x at here =
      let k = place_among (line_rows local) r.row in
      let place : length (value_rows local) + length (single_rows local) + (3 * k + i) ≡ ring_field local r.row + i = omega arith in
      subst (λ j. slice_get fields j ≡ Some (slot_field x)) place
      (memory-at (length (value_rows local) + length (single_rows local) + (3 * k + i)) x
      (at-second rows rings (length (value_rows local) + length (single_rows local)) (3 * k + i) x rows-long
      (ring-at (line_rows local) k q i x at here)))

  pub items-array : (r : LocalRow) → Contains (line_rows local) r → IsArrayAt fields (ring_field local r.row)
  items-array r h =
      let q = among (line_rows local) r h in
      let place : ring_field local r.row + 0 ≡ ring_field local r.row = omega arith in (
        slot_field (ring_items q.0),
        container q.0.out,
        delay_length q.0.op,
        subst (λ j. slice_get fields j ≡ Some (slot_field (ring_items q.0))) place (ring-slot r q.0 0 (ring_items q.0) q.1 refl),
        refl,
      )

  pub place-number : (r : LocalRow) → Contains (line_rows local) r → IsNumberAt fields (ring_field local r.row + 1)
  place-number r h = let q = among (line_rows local) r h in (slot_field (ring_place q.0), ring-slot r q.0 1 (ring_place q.0) q.1 refl, refl)

  pub taken-number : (r : LocalRow) → Contains (line_rows local) r → IsNumberAt fields (ring_field local r.row + 2)
  taken-number r h = let q = among (line_rows local) r h in (slot_field (ring_taken q.0), ring-slot r q.0 2 (ring_taken q.0) q.1 refl, refl)

  pub trigger-number : is_triggered local.control ≡ true → IsNumberAt fields (trigger_field local)
  trigger-number is =
      let place : trigger_field local + 0 ≡ trigger_field local = omega arith in (
        slot_field trigger,
        subst (λ j. slice_get fields j ≡ Some (slot_field trigger)) place
            (own-at (trigger_field local + 0) trigger
            (at-left states instances (trigger_field local + 0) trigger
            (at-second memories triggers (trigger_field local) 0 trigger memories-long
            (ap (λ t. slice_get (if t then trigger ∷ [] else []) 0) is)))),
        refl,
      )

  pub child-struct : (k : ℕ) (u : ChildUse) → slice_get local.children k ≡ Some u → IsStructAt fields (child_field local k) k
  child-struct k u at =
      let same : 0 + k ≡ k = omega arith in (
        slot_field (instance (0 + k) u),
        own-at (child_field local k) (instance (0 + k) u)
            (at-second states instances (trigger_field local + (if is_triggered local.control then 1 else 0)) k
            (instance (0 + k) u) states-long
            (at-map (λ (e : ℕ × ChildUse). instance e.0 e.1) (enumerate_from 0 local.children) k (0 + k, u)
            (enumerated-at 0 local.children k u at))),
        ap Struct same,
      )

  pub counter-number : (k : ℕ) → k < length (shared_groups schedule) → IsNumberAt fields (child_field local (length local.children) + k)
  counter-number k below =
      let g = below-at (shared_groups schedule) k below in (
        slot_field (counter_slot g.0),
        whole-at (child_field local (length local.children) + k) (counter_slot g.0)
            (at-second (own_slots local) counters (child_field local (length local.children)) k (counter_slot g.0) own-long
            (at-map counter_slot (shared_groups schedule) k g.0 g.1)),
        refl,
      )
