-- The fields of a system and of those inside it: its own, and those of its children.
use Rattle.std.specs.Prelude.{◌≡◌, ℕ, suc, ◌+◌, ◌≤◌, List, [], ◌∷◌, ◌++◌, map, flat_map, filter, length, slice_get, slice_index_or, if◌then◌else◌, Some, refl}
use Rattle.std.specs.List.{enumerate_from}
use Rattle.std.proofs.Common.{sym, ap, ap₂, ◌∙◌, arith}
use Rattle.std.proofs.lemmas.List.Sorted.{sum_by-IsPermutation}
use Rattle.std.proofs.lemmas.Option.{get_or_from_slice_get}
use Rattle.diagram_blocks.specs.Meaning.{has_value}
use Rattle.diagram_meaning.specs.Rows.{is_triggered}
use Rattle.modules_profile.specs.declared.ChildUse.{ChildUse}
use Rattle.modules_profile.specs.declared.LocalRow.{LocalRow}
use Rattle.modules_profile.specs.LocalSystem.{LocalSystem}
use Rattle.modules_profile.proofs.lemmas.Members.{at-map}
use Rattle.emit_shape.specs.Delays.{is_single, is_line}
use Rattle.emit_shape.specs.Slots.{Slot, value, memory, trigger, counter, instance, ring_slots, own_slots, or_filler, CounterField, AreSlots}
use Rattle.right_relation.specs.Forms.{Forms, no_forms, slot_form, slot_forms}
use Rattle.right_claim.specs.Anew.{form_fields, field_count}
use Rattle.right_program_starts.proofs.Sums.{total, total-is, total-map}

total-append : {A : Type 0} (f : A → ℕ) (xs ys : List A) → total f (xs ++ ys) ≡ total f xs + total f ys
total-append f [] ys = omega arith
total-append f (x ∷ xs) ys = let rest = total-append f xs ys in omega (arith, rest)

total-filled : (f : Slot → ℕ) (xs : List Slot) → total f xs ≤ total f (or_filler xs)
total-filled f [] = omega arith
total-filled f (x ∷ xs) = omega arith

-- the fields inside a slot's field
abbrev within : List Forms → Slot → ℕ
within children slot = form_fields (slot_form children slot)

count-slots : (children : List Forms) (slots : List Slot) →
    field_count (slot_forms children slots) ≡ length slots + total (within children) slots
count-slots children [] = refl
count-slots children (s ∷ slots) = let rest = count-slots children slots in omega (arith, rest)

-- those of the children from a place on
count-children : (forms : ChildUse → Forms) (children : List Forms) (us : List ChildUse) (n : ℕ) →
    ((k : ℕ) (u : ChildUse) → slice_get us k ≡ Some u → slice_index_or children (n + k) no_forms ≡ forms u) →
    total (λ (e : ℕ × ChildUse). field_count (slice_index_or children e.0 no_forms)) (enumerate_from n us)
    ≡ total (λ (u : ChildUse). field_count (forms u)) us
count-children forms children [] n at = refl
count-children forms children (u ∷ us) n at =
    let none : n ≡ n + 0 = omega arith in
    ap₂ (λ a b. a + b) (ap (λ k. field_count (slice_index_or children k no_forms)) none ∙ ap field_count (at 0 u refl))
    (count-children forms children us (n + 1) (λ k w there.
    (let next : n + 1 + k ≡ n + suc k = omega arith in ap (λ i. slice_index_or children i no_forms) next) ∙ at (suc k) w there))

pub fields-below : (local : LocalSystem) (slots : List Slot) → AreSlots local slots → (forms : ChildUse → Forms) →
    length slots + total (λ (u : ChildUse). field_count (forms u)) local.children
    ≤ field_count (slot_forms (map forms local.children) slots)
fields-below local slots are forms =
    let children = map forms local.children in
    let inside = within children in
    let others : List Slot =
    map value (filter (λ (r : LocalRow). has_value r.kind) local.rows) ++ map memory (filter (λ (r : LocalRow). is_single r.op) local.rows)
    ++ flat_map ring_slots (filter (λ (r : LocalRow). is_line r.op) local.rows)
    ++ (if is_triggered local.control then trigger ∷ [] else []) in
    let made : ℕ × ChildUse → Slot = λ e. instance e.0 e.1 in
    let instances : List Slot = map made (enumerate_from 0 local.children) in
    let counters : List Slot = map (λ (c : CounterField). counter c.name c.type) are.counters in
    let all : List Slot = own_slots local ++ counters in
    let whole = count-slots children slots in
    let same : total inside slots ≡ total inside (or_filler all) =
    sym (total-is inside slots) ∙ sum_by-IsPermutation inside (or_filler all) slots are.all ∙ total-is inside (or_filler all) in
    let filled = total-filled inside all in
    let last = total-append inside (own_slots local) counters in
    let first = total-append inside others instances in
    let each = total-map inside made (enumerate_from 0 local.children) in
    let sum = count-children forms children local.children 0 (λ k u there.
    (let none : 0 + k ≡ k = omega arith in ap (λ i. slice_index_or children i no_forms) none)
    ∙ get_or_from_slice_get children k (forms u) no_forms (at-map forms local.children k u there)) in
    omega (arith, whole, same, filled, last, first, each, sum)
