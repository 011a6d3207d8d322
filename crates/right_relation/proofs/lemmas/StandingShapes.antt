-- The fields of a typed tick have the struct's shape.
use Rattle.std.specs.Prelude.{◌≡◌, ℕ, Bool, true, false, if◌then◌else◌, List, [], ◌∷◌, filter, length, Contains, ℤ, refl}
use Rattle.std.specs.List.{AllByRecursion}
use Rattle.std.proofs.Common.{sym, subst, ◌∙◌, arith, inl, inr, true≢false}
use Rattle.diagram_blocks.specs.declared.Op.{Op}
use Rattle.diagram_blocks.specs.declared.Op.TheVariants.{Delay}
use Rattle.diagram_blocks.specs.Meaning.{has_value, delay_length}
use Rattle.base_fixed_point.specs.Conversion.{InType}
use Rattle.diagram_meaning.specs.Run.{first_of}
use Rattle.diagram_blocks.specs.Kinds.{is_delay}
use Rattle.modules_profile.specs.declared.LocalRow.{LocalRow}
use Rattle.modules_profile.specs.declared.Node.{Node}
use Rattle.modules_profile.specs.declared.Node.TheVariants.{Row}
use Rattle.modules_profile.specs.LocalSystem.{LocalSystem}
use Rattle.modules_profile.proofs.lemmas.Members.{in-none, in-first, in-rest, in-cases, in-filter}
use Rattle.emit_shape.specs.Delays.{is_single, is_line}
use Rattle.emit_shape.specs.Slots.{Slot, value, memory, ring_items, ring_place, ring_taken, trigger, counter, instance, filler}
use Rattle.right_relation.specs.Rings.{IsRing}
use Rattle.emit_shape.specs.RowStarts.{row_start}
use Rattle.right_relation.specs.LocalTicks.{LocalTick, IsLocalTick, IsTypedTick}
use Rattle.right_relation.specs.Instances.{InstanceTick}
use Rattle.right_relation.specs.Standing.{standing_cell, standing_cells}
use Rattle.right_relation.specs.NodeStatements.{HasSlot, HasSlots}
use Rattle.right_relation.specs.SoundLocals.{IsSoundLocal}
use Rattle.right_relation.specs.ExecutedNodes.{IsCounting, StandingHasSlots}
use Rattle.right_relation.proofs.lemmas.Containers.{container-has, bit-fits, place-fits}
use Rattle.right_relation.proofs.lemmas.SlotMembers.{SlotIs, slot-is}

-- a delay of one sample is a delay, of that length
single-is_delay : (op : Op) → is_single op ≡ true → (is_delay op ≡ true) × (delay_length op ≡ 1)
single-is_delay (Delay initial) h = (refl, refl)
single-is_delay _ h = absurd (true≢false (sym h))

member : {A : Type 0} (P : A → Type 0) (xs : List A) (x : A) → AllByRecursion P xs → Contains xs x → P x
member P [] x all h = absurd (in-none x h)
member P (y ∷ ys) x all h = elim (in-cases y x ys h) [ inl same ↦ subst P same all.0 | inr more ↦ member P ys x all.1 more ]

-- what holds of those that pass
kept : {A : Type 0} (P : A → Type 0) (test : A → Bool) (xs : List A) (x : A) → AllByRecursion P (filter test xs) → Contains xs x →
    test x ≡ true → P x
kept P test xs x all h passes = member P (filter test xs) x all (in-filter test xs x h passes)

first-in : (P : ℤ → Type 0) (vs : List ℤ) → length vs ≡ 1 → AllByRecursion P vs → P (first_of vs)
first-in P [] one all = absurd (omega (arith, one))
first-in P (v ∷ vs) one all = all.0

module _ (local : LocalSystem) (m : LocalTick) (children : List InstanceTick) (executed : Node → Bool) (counted : List ℕ → ℤ)
    (sound : IsSoundLocal local)
    (tick : IsLocalTick local m) (typed : IsTypedTick local m) (counting : IsCounting counted) where
  ring : (r : LocalRow) → Contains local.rows r → is_line r.op ≡ true →
      IsRing (delay_length r.op) (row_start local r) (m.ring r.row) (m.tick.memory r.row)
  ring r own line =
      kept (λ (r : LocalRow). IsRing (delay_length r.op) (row_start local r) (m.ring r.row) (m.tick.memory r.row))
      (λ (r : LocalRow). is_line r.op) local.rows r
      tick.ring_holds own line

  has-slot : (x : Slot) → SlotIs local x → HasSlot x (standing_cell local m children executed counted x)
  has-slot (value r) (own, has) =
      container-has r.out (if executed (Row r.row) then m.tick.value r.row else m.tick.before r.row) (by (executed (Row r.row)))
    where
      by : (t : Bool) → InType r.out (if t then m.tick.value r.row else m.tick.before r.row)
      by true =
          kept (λ (r : LocalRow). InType r.out (m.tick.value r.row)) (λ (r : LocalRow). has_value r.kind) local.rows r typed.values own has
      by false =
          kept (λ (r : LocalRow). InType r.out (m.tick.before r.row)) (λ (r : LocalRow). has_value r.kind) local.rows r typed.before own has
  has-slot (memory r) (own, single) =
      let delay = single-is_delay r.op single in
      let long = kept (λ (r : LocalRow). length (m.tick.memory r.row) ≡ delay_length r.op)
      (λ (r : LocalRow). is_delay r.op) local.rows r tick.lengths own delay.0 in
      let all = kept
      (λ (r : LocalRow). AllByRecursion (InType r.out) (m.tick.memory r.row) × AllByRecursion (InType r.out) (m.tick.memory_after r.row))
      (λ (r : LocalRow). is_delay r.op) local.rows r typed.memories own delay.0 in
      container-has r.out (first_of (m.tick.memory r.row)) (first-in (InType r.out) (m.tick.memory r.row) (long ∙ delay.1) all.0)
  has-slot (ring_items r) (own, line) = (ring r own line).long
  has-slot (ring_place r) (own, line) =
      let below = (ring r own line).place in
      let short = sound.lengths r own in
      place-fits (m.ring r.row).place (omega (arith, below, short))
  has-slot (ring_taken r) (own, line) =
      let most = (ring r own line).taken in
      let short = sound.lengths r own in
      place-fits (m.ring r.row).taken (omega (arith, most, short))
  has-slot trigger is = tt
  has-slot (counter name type) is = bit-fits type (counted name) (counting name)
  has-slot (instance k u) is = tt
  has-slot filler is = tt

  has-slots : (slots : List Slot) → ((x : Slot) → Contains slots x → SlotIs local x) →
      HasSlots slots (standing_cells local m children slots executed counted)
  has-slots [] each = tt
  has-slots (x ∷ slots) each = (has-slot x (each x (in-first x slots)), has-slots slots (λ y h. each y (in-rest x y slots h)))

pub standing_has_slots : StandingHasSlots
standing_has_slots local slots m children sound are tick typed executed counted counting =
    has-slots local m children executed counted sound tick typed counting slots (slot-is local slots are)
