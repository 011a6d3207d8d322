-- Each row of a system has its slots, and what holds of all slots of fields holds where a slot is.
use Rattle.std.specs.Prelude.{◌≡◌, ℕ, zero, suc, true, if◌then◌else◌, List, [], ◌∷◌, ◌++◌, map, flat_map, filter, slice_get, Contains, Some}
use Rattle.std.specs.List.{enumerate_from}
use Rattle.std.proofs.Common.{sym, subst, inl, inr}
use Rattle.std.proofs.lemmas.List.Elements.{Contains-append_left, Contains-append_right}
use Rattle.std.proofs.lemmas.List.Sorted.{Contains-permutation}
use Rattle.std.proofs.lemmas.Option.{same_Some, none-some}
use Rattle.diagram_blocks.specs.Meaning.{has_value}
use Rattle.diagram_meaning.specs.Rows.{is_triggered}
use Rattle.modules_profile.specs.declared.ChildUse.{ChildUse}
use Rattle.modules_profile.specs.declared.LocalRow.{LocalRow}
use Rattle.modules_profile.specs.LocalSystem.{LocalSystem}
use Rattle.modules_profile.proofs.lemmas.Members.{in-none, in-first, in-rest, in-cases, in-map, in-filter}
use Rattle.c_semantics.specs.Cells.{Cell, number, items, object, Cells, no_cells, more_cells, cell_at, cell_fields}
use Rattle.emit_shape.specs.Delays.{is_single, is_line}
use Rattle.emit_shape.specs.Slots.{Slot, value, memory, ring_items, ring_place, ring_taken, trigger, counter, instance, ring_slots, own_slots, or_filler, CounterField, AreSlots}
use Rattle.right_relation.specs.Forms.{holds_instance, Forms, HasForm, HasForms, slot_form, slot_forms}
use Rattle.right_relation.specs.Renewals.{AllSlots}

-- ---- Fields by the places of their slots

pub slots-at : (P : Slot → Cell → Cell → Type 0) (slots : List Slot) (before after : Cells) (f : ℕ) (x : Slot) →
    AllSlots P slots before after →
    slice_get slots f ≡ Some x → P x (cell_at before f) (cell_at after f)
slots-at P [] before after f x all at = absurd (none-some x at)
slots-at P (s ∷ slots) no_cells after f x all at = absurd all
slots-at P (s ∷ slots) (more_cells b before) no_cells f x all at = absurd all
slots-at P (s ∷ slots) (more_cells b before) (more_cells c after) zero x all at = subst (λ y. P y b c) (same_Some s x at) all.0
slots-at P (s ∷ slots) (more_cells b before) (more_cells c after) (suc f) x all at = slots-at P slots before after f x all.1 at

pub forms-at : (children : List Forms) (slots : List Slot) (cells : Cells) (f : ℕ) (x : Slot) → HasForms (slot_forms children slots) cells →
    slice_get slots f ≡ Some x → HasForm (slot_form children x) (cell_at cells f)
forms-at children [] cells f x has at = absurd (none-some x at)
forms-at children (s ∷ slots) no_cells f x has at = absurd has
forms-at children (s ∷ slots) (more_cells c cells) zero x has at = subst (λ y. HasForm (slot_form children y) c) (same_Some s x at) has.0
forms-at children (s ∷ slots) (more_cells c cells) (suc f) x has at = forms-at children slots cells f x has.1 at

-- a field that holds an instance has its fields
pub instance-fields : (fields : Forms) (c : Cell) → HasForm (holds_instance fields) c → HasForms fields (cell_fields c)
instance-fields fields (number z) has = absurd has
instance-fields fields (items zs) has = absurd has
instance-fields fields (object cells) has = has

-- ---- Which slots there are

module _ (local : LocalSystem) (slots : List Slot) (are : AreSlots local slots) where
  abbrev values : List Slot
  values = map value (filter (λ (r : LocalRow). has_value r.kind) local.rows)

  abbrev memories : List Slot
  memories = map memory (filter (λ (r : LocalRow). is_single r.op) local.rows)

  abbrev rings : List Slot
  rings = flat_map ring_slots (filter (λ (r : LocalRow). is_line r.op) local.rows)

  abbrev triggers : List Slot
  triggers = if is_triggered local.control then trigger ∷ [] else []

  abbrev instances : List Slot
  instances = map (λ (e : ℕ × ChildUse). instance e.0 e.1) (enumerate_from 0 local.children)

  abbrev counters : List Slot
  counters = map (λ (c : CounterField). counter c.name c.type) are.counters

  filled : (xs : List Slot) (x : Slot) → Contains xs x → Contains (or_filler xs) x
  filled [] x has = absurd (in-none x has)
  filled (y ∷ ys) x has = has

  own-there : (x : Slot) → Contains (own_slots local) x → Contains slots x
  own-there x has =
      Contains-permutation (or_filler (own_slots local ++ counters)) slots x are.all
      (filled (own_slots local ++ counters) x (Contains-append_left (own_slots local) counters x has))

  own-first : (x : Slot) → Contains (values ++ memories ++ rings ++ triggers) x → Contains slots x
  own-first x has = own-there x (Contains-append_left (values ++ memories ++ rings ++ triggers) instances x has)

  pub value-there : (r : LocalRow) → Contains local.rows r → has_value r.kind ≡ true → Contains slots (value r)
  value-there r own has =
      own-first (value r) (Contains-append_left (values ++ memories ++ rings) triggers (value r)
      (Contains-append_left (values ++ memories) rings (value r) (Contains-append_left values memories (value r)
      (in-map value (filter (λ (q : LocalRow). has_value q.kind) local.rows) r
      (in-filter (λ (q : LocalRow). has_value q.kind) local.rows r own has)))))

  pub memory-there : (r : LocalRow) → Contains local.rows r → is_single r.op ≡ true → Contains slots (memory r)
  memory-there r own has =
      own-first (memory r) (Contains-append_left (values ++ memories ++ rings) triggers (memory r)
      (Contains-append_left (values ++ memories) rings (memory r) (Contains-append_right values memories (memory r)
      (in-map memory (filter (λ (q : LocalRow). is_single q.op) local.rows) r
      (in-filter (λ (q : LocalRow). is_single q.op) local.rows r own has)))))

  in-rings : (rs : List LocalRow) (r : LocalRow) (x : Slot) → Contains rs r → Contains (ring_slots r) x →
      Contains (flat_map ring_slots rs) x
  in-rings [] r x own has = absurd (in-none r own)
  in-rings (q ∷ rs) r x own has = elim (in-cases q r rs own) [
    | inl same ↦ Contains-append_left (ring_slots q) (flat_map ring_slots rs) x (subst (λ z. Contains (ring_slots z) x) (sym same) has)
    | inr more ↦ Contains-append_right (ring_slots q) (flat_map ring_slots rs) x (in-rings rs r x more has)
  ]

  ring-there : (r : LocalRow) (x : Slot) → Contains local.rows r → is_line r.op ≡ true → Contains (ring_slots r) x → Contains slots x
  ring-there r x own has among =
      own-first x (Contains-append_left (values ++ memories ++ rings) triggers x (Contains-append_right (values ++ memories) rings x
      (in-rings (filter (λ (q : LocalRow). is_line q.op) local.rows) r x
      (in-filter (λ (q : LocalRow). is_line q.op) local.rows r own has) among)))

  pub items-there : (r : LocalRow) → Contains local.rows r → is_line r.op ≡ true → Contains slots (ring_items r)
  items-there r own has = ring-there r (ring_items r) own has (in-first (ring_items r) (ring_place r ∷ ring_taken r ∷ []))

  pub place-there : (r : LocalRow) → Contains local.rows r → is_line r.op ≡ true → Contains slots (ring_place r)
  place-there r own has =
      ring-there r (ring_place r) own has
      (in-rest (ring_items r) (ring_place r) (ring_place r ∷ ring_taken r ∷ []) (in-first (ring_place r) (ring_taken r ∷ [])))

  pub taken-there : (r : LocalRow) → Contains local.rows r → is_line r.op ≡ true → Contains slots (ring_taken r)
  taken-there r own has =
      ring-there r (ring_taken r) own has (in-rest (ring_items r) (ring_taken r) (ring_place r ∷ ring_taken r ∷ [])
      (in-rest (ring_place r) (ring_taken r) (ring_taken r ∷ []) (in-first (ring_taken r) [])))

  pub trigger-there : is_triggered local.control ≡ true → Contains slots trigger
  trigger-there has =
      own-first trigger (Contains-append_right (values ++ memories ++ rings) triggers trigger
      (subst (λ t. Contains (if t then trigger ∷ [] else []) trigger) (sym has) (in-first trigger [])))
