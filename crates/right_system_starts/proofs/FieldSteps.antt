-- The steps of a start and of a reset field by field: those of the own statements, and those of the children.
use Rattle.std.specs.Prelude.{◌≡◌, ℕ, suc, ◌+◌, ◌≤◌, Bool, true, false, if◌then◌else◌, List, [], ◌∷◌, ◌++◌, map, flat_map, length, sum_by, refl}
use Rattle.std.specs.List.{enumerate_from}
use Rattle.std.proofs.Common.{sym, ap, ap₂, ◌∙◌, arith}
use Rattle.std.proofs.lemmas.List.{length-append}
use Rattle.std.proofs.lemmas.List.Sums.{sum_by-cons}
use Rattle.diagram_meaning.specs.Rows.{is_triggered}
use Rattle.modules_profile.specs.declared.ChildUse.{ChildUse}
use Rattle.modules_profile.specs.declared.LocalRow.{LocalRow}
use Rattle.modules_profile.specs.LocalSystem.{LocalSystem}
use Rattle.modules_schedule.specs.SystemSchedule.{SystemSchedule}
use Rattle.c_syntax.specs.Tree.{assign}
use Rattle.emit_row_code.specs.RowCode.{written}
use Rattle.emit_shape.specs.RowStarts.{row_start}
use Rattle.emit_shape.specs.Slots.{Slot, value, memory, ring_items, ring_place, ring_taken, trigger, counter, instance, filler, ring_slots, own_slots, or_filler}
use Rattle.right_relation.specs.Renewals.{Renewal, renewal_at}
use Rattle.emit_system_spec.specs.Fields.{value_rows, single_rows, line_rows, shared_groups, counter_slot, code_slots}
use Rattle.emit_system_spec.specs.Renewing.{zero_store}
use Rattle.right_system_starts.proofs.FieldCode.{field_code, fields_code, field_steps, fields_steps}

-- ---- Own statements, and steps of children

-- the steps of the child in a field
abbrev inside : List Renewal → Slot → ℕ
inside children (instance k u) = (renewal_at children k).most
inside children _ = 0

abbrev pub insides : List Renewal → List Slot → ℕ
insides children [] = 0
insides children (s ∷ slots) = inside children s + insides children slots

module _ (all : Bool) (local : LocalSystem) (callee : ℕ → ChildUse → ℕ) (children : List Renewal) where
  one-field : (f : ℕ) (s : Slot) → field_steps all local children s ≡ length (field_code all local callee f s) + inside children s
  one-field f (value r) = by all
    where
      by : (t : Bool) → (if t then 1 else 0) ≡ length (if t then assign 0 f (written (row_start local r)) ∷ [] else []) + 0
      by true = refl
      by false = refl
  one-field f (counter name type) = by all
    where
      by : (t : Bool) → (if t then 1 else 0) ≡ length (if t then zero_store f ∷ [] else []) + 0
      by true = refl
      by false = refl
  one-field f _ = refl

  pub all-fields : (slots : List Slot) (f : ℕ) →
      fields_steps all local children slots ≡ length (fields_code all local callee f slots) + insides children slots
  all-fields [] f = refl
  all-fields (s ∷ slots) f =
      let here = one-field f s in
      let rest = all-fields slots (f + 1) in
      let both = length-append (field_code all local callee f s) (fields_code all local callee (f + 1) slots) in
      omega (arith, here, rest, both)

-- ---- At most one step for each field

module _ (all : Bool) (local : LocalSystem) (children : List Renewal) where
  few-field : (s : Slot) → field_steps all local children s ≤ 1 + inside children s
  few-field (value r) = by all
    where
      by : (t : Bool) → (if t then 1 else 0) ≤ 1
      by true = omega arith
      by false = omega arith
  few-field (counter name type) = by all
    where
      by : (t : Bool) → (if t then 1 else 0) ≤ 1
      by true = omega arith
      by false = omega arith
  few-field _ = omega arith

  pub few-fields : (slots : List Slot) → fields_steps all local children slots ≤ length slots + insides children slots
  few-fields [] = omega arith
  few-fields (s ∷ slots) =
      let here = few-field s in
      let rest = few-fields slots in
      omega (arith, here, rest)

-- ---- The steps of children

module _ (children : List Renewal) where
  insides-append : (xs ys : List Slot) → insides children (xs ++ ys) ≡ insides children xs + insides children ys
  insides-append [] ys = omega arith
  insides-append (x ∷ xs) ys = let rest = insides-append xs ys in omega (arith, rest)

  insides-none : {A : Type 0} (slot : A → Slot) (xs : List A) → ((x : A) → inside children (slot x) ≡ 0) →
      insides children (map slot xs) ≡ 0
  insides-none slot [] none = refl
  insides-none slot (x ∷ xs) none = let here = none x in let rest = insides-none slot xs none in omega (arith, here, rest)

  insides-rings : (rows : List LocalRow) → insides children (flat_map ring_slots rows) ≡ 0
  insides-rings [] = refl
  insides-rings (r ∷ rows) = let rest = insides-rings rows in omega (arith, rest)

  insides-trigger : (t : Bool) → insides children (if t then trigger ∷ [] else []) ≡ 0
  insides-trigger true = refl
  insides-trigger false = refl

  insides-filled : (xs : List Slot) → insides children (or_filler xs) ≡ insides children xs
  insides-filled [] = refl
  insides-filled (x ∷ xs) = refl

  insides-children : (us : List ChildUse) (n : ℕ) (rest : List Renewal) → length us ≡ length rest →
      ((k : ℕ) → renewal_at children (n + k) ≡ renewal_at rest k) →
      insides children (map (λ (e : ℕ × ChildUse). instance e.0 e.1) (enumerate_from n us)) ≡ sum_by (λ (n : Renewal). n.most) rest
  insides-children [] n [] long same = refl
  insides-children [] n (r ∷ rest) long same = absurd (omega (arith, long))
  insides-children (u ∷ us) n [] long same = absurd (omega (arith, long))
  insides-children (u ∷ us) n (r ∷ rest) long same =
      let here : renewal_at children n ≡ r = (let none : n ≡ n + 0 = omega arith in ap (renewal_at children) none) ∙ same 0 in
      ap₂ (λ a b. a + b) (ap (λ (x : Renewal). x.most) here)
      (insides-children us (n + 1) rest (omega (arith, long))
      (λ k. (let next : n + 1 + k ≡ n + suc k = omega arith in ap (renewal_at children) next) ∙ same (suc k)))
      ∙ sym (sum_by-cons (λ (n : Renewal). n.most) r rest)

  pub insides-are : (local : LocalSystem) (schedule : SystemSchedule) → length local.children ≡ length children →
      insides children (code_slots local schedule) ≡ sum_by (λ (n : Renewal). n.most) children
  insides-are local schedule long =
      let value_slots = map value (value_rows local) in
      let memory_slots = map memory (single_rows local) in
      let line_slots = flat_map ring_slots (line_rows local) in
      let trigger_slots : List Slot = if is_triggered local.control then trigger ∷ [] else [] in
      let child_slots = map (λ (e : ℕ × ChildUse). instance e.0 e.1) (enumerate_from 0 local.children) in
      let counter_slots = map counter_slot (shared_groups schedule) in
      let filled = insides-filled (own_slots local ++ counter_slots) in
      let last = insides-append (own_slots local) counter_slots in
      let fourth = insides-append (value_slots ++ memory_slots ++ line_slots ++ trigger_slots) child_slots in
      let third = insides-append (value_slots ++ memory_slots ++ line_slots) trigger_slots in
      let second = insides-append (value_slots ++ memory_slots) line_slots in
      let first = insides-append value_slots memory_slots in
      let values = insides-none value (value_rows local) (λ r. refl) in
      let memories = insides-none memory (single_rows local) (λ r. refl) in
      let rings = insides-rings (line_rows local) in
      let triggers = insides-trigger (is_triggered local.control) in
      let counters = insides-none counter_slot (shared_groups schedule) (λ g. refl) in
      let own = insides-children local.children 0 children long
      (λ k. let none : 0 + k ≡ k = omega arith in ap (renewal_at children) none) in
      filled ∙ omega (arith, last, fourth, third, second, first, values, memories, rings, triggers, counters, own)
