-- Each child and each row with a value has a slot, and its name is found there.
use Rattle.std.specs.Prelude.{◌≡◌, ◌⊎◌, ℕ, ◌+◌, true, if◌then◌else◌, List, [], ◌∷◌, ◌++◌, map, flat_map, filter, slice_get, Contains, Option, Some, None, refl}
use Rattle.std.specs.List.{enumerate_from}
use Rattle.std.proofs.Common.{sym, subst, ◌∙◌, arith, inl, inr}
use Rattle.std.proofs.lemmas.Option.{none-some}
use Rattle.std.proofs.lemmas.List.Elements.{Contains-append_left, Contains-append_right}
use Rattle.std.proofs.lemmas.List.Sorted.{Contains-permutation}
use Rattle.diagram_blocks.specs.Meaning.{has_value}
use Rattle.diagram_meaning.specs.Rows.{is_triggered}
use Rattle.modules_profile.specs.declared.ChildUse.{ChildUse}
use Rattle.modules_profile.specs.declared.LocalRow.{LocalRow}
use Rattle.modules_profile.specs.LocalSystem.{LocalSystem}
use Rattle.modules_profile.proofs.lemmas.Members.{in-none, in-map, in-filter, in-enumerate, at-in, in-at}
use Rattle.emit_shape.specs.Delays.{is_single, is_line}
use Rattle.emit_shape.specs.Slots.{Slot, value, memory, ring_items, ring_place, ring_taken, trigger, counter, instance, filler, ring_slots, own_slots, or_filler, CounterField, AreSlots}
use Rattle.right_relation.proofs.lemmas.SlotMembers.{slot-is}

in-filler : (xs : List Slot) (x : Slot) → Contains xs x → Contains (or_filler xs) x
in-filler [] x has = absurd (in-none x has)
in-filler (y ∷ ys) x has = has

module _ (local : LocalSystem) (slots : List Slot) (are : AreSlots local slots) where
  abbrev values : List Slot
  values = map value (filter (λ (r : LocalRow). has_value r.kind) local.rows)

  abbrev memories : List Slot
  memories = map memory (filter (λ (r : LocalRow). is_single r.op) local.rows)

  abbrev rings : List Slot
  rings = flat_map ring_slots (filter (λ (r : LocalRow). is_line r.op) local.rows)

  abbrev triggers : List Slot
  triggers = if is_triggered local.control then trigger ∷ [] else []

  abbrev instances : List Slot
  instances = map (λ (e : ℕ × ChildUse). instance e.0 e.1) (enumerate_from 0 local.children)

  abbrev counters : List Slot
  counters = map (λ (c : CounterField). counter c.name c.type) are.counters

  own-slot : (x : Slot) → Contains (own_slots local) x → (f : ℕ) × (slice_get slots f ≡ Some x)
  own-slot x has = at-in slots x
      (Contains-permutation (or_filler (own_slots local ++ counters)) slots x are.all
      (in-filler (own_slots local ++ counters) x (Contains-append_left (own_slots local) counters x has)))

  -- a child has one
  pub child-slot : (k : ℕ) (u : ChildUse) → slice_get local.children k ≡ Some u → (f : ℕ) × (slice_get slots f ≡ Some (instance k u))
  child-slot k u at =
      let place : 0 + k ≡ k = omega arith in
      let numbered = subst (λ i. Contains (enumerate_from 0 local.children) (i, u)) place (in-enumerate 0 local.children k u at) in
      own-slot (instance k u) (Contains-append_right (values ++ memories ++ rings ++ triggers) instances (instance k u)
      (in-map (λ (e : ℕ × ChildUse). instance e.0 e.1) (enumerate_from 0 local.children) (k, u) numbered))

  -- a row with a value has one
  pub value-slot : (r : LocalRow) → Contains local.rows r → has_value r.kind ≡ true → (f : ℕ) × (slice_get slots f ≡ Some (value r))
  value-slot r has is =
      own-slot (value r) (Contains-append_left (values ++ memories ++ rings ++ triggers) instances (value r)
      (Contains-append_left (values ++ memories ++ rings) triggers (value r)
      (Contains-append_left (values ++ memories) rings (value r)
      (Contains-append_left values memories (value r)
      (in-map value (filter (λ (q : LocalRow). has_value q.kind) local.rows) r
      (in-filter (λ (q : LocalRow). has_value q.kind) local.rows r has is))))))

  pub child-of-slot : (f k : ℕ) (u : ChildUse) → slice_get slots f ≡ Some (instance k u) → slice_get local.children k ≡ Some u
  child-of-slot f k u at = slot-is local slots are (instance k u) (in-at slots f (instance k u) at)

  -- a field is a child's, or is not
  pub slot-cases : (f : ℕ) → ((k : ℕ) × (u : ChildUse) × (slice_get slots f ≡ Some (instance k u)))
      ⊎ ((k : ℕ) (u : ChildUse) → slice_get slots f ≡ Some (instance k u) → ⊥)
  slot-cases f = by (slice_get slots f) refl
    where
      other : (x : Slot) → ((k : ℕ) (u : ChildUse) → x ≡ instance k u → ⊥) → slice_get slots f ≡ Some x → (k : ℕ) (u : ChildUse) →
          slice_get slots f ≡ Some (instance k u) → ⊥
      other x apart is k u at = let same : Some x ≡ Some (instance k u) = sym is ∙ at in apart k u (cc same)

      by : (o : Option Slot) → slice_get slots f ≡ o →
          ((k : ℕ) × (u : ChildUse) × (slice_get slots f ≡ Some (instance k u)))
          ⊎ ((k : ℕ) (u : ChildUse) → slice_get slots f ≡ Some (instance k u) → ⊥)
      by None is = inr (λ k u at. none-some (instance k u) (sym is ∙ at))
      by (Some (value r)) is = inr (other (value r) (λ k u e. cc e) is)
      by (Some (memory r)) is = inr (other (memory r) (λ k u e. cc e) is)
      by (Some (ring_items r)) is = inr (other (ring_items r) (λ k u e. cc e) is)
      by (Some (ring_place r)) is = inr (other (ring_place r) (λ k u e. cc e) is)
      by (Some (ring_taken r)) is = inr (other (ring_taken r) (λ k u e. cc e) is)
      by (Some trigger) is = inr (other trigger (λ k u e. cc e) is)
      by (Some (counter name type)) is = inr (other (counter name type) (λ k u e. cc e) is)
      by (Some (instance k u)) is = inl (k, u, is)
      by (Some filler) is = inr (other filler (λ k u e. cc e) is)
