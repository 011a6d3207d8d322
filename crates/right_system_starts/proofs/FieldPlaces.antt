-- The code of a start and of a reset is that of the fields one after another: each row's field is where its number says.
use Rattle.std.specs.Prelude.{◌≡◌, ℕ, zero, suc, ◌+◌, ◌*◌, ◌==◌, Bool, true, false, cond, if◌then◌else◌, List, [], ◌∷◌, ◌++◌, map, flat_map, filter, length, slice_get, Contains, Some, unwrap_or, ⊤, refl}
use Rattle.std.specs.List.{enumerate_from, range_with_len, position_from}
use Rattle.std.proofs.Common.{sym, ap, ◌∙◌, arith}
use Rattle.std.proofs.lemmas.Bool.{eq-eqb, ne_eqb}
use Rattle.std.proofs.lemmas.List.{append_assoc, append-nil, length-append}
use Rattle.std.proofs.lemmas.Option.{same_Some, none-some}
use Rattle.diagram_blocks.specs.Meaning.{has_value}
use Rattle.modules_clusters.specs.Grouping.{AreDifferent}
use Rattle.diagram_meaning.specs.Rows.{is_triggered}
use Rattle.modules_profile.specs.declared.ChildUse.{ChildUse}
use Rattle.modules_profile.specs.declared.LocalRow.{LocalRow}
use Rattle.modules_profile.specs.LocalSystem.{LocalSystem}
use Rattle.modules_profile.specs.Headers.{header_functions}
use Rattle.modules_profile.proofs.lemmas.Members.{of-filter, in-at, at-in, at-map}
use Rattle.modules_profile.proofs.lemmas.OwnRows.{differ-at}
use Rattle.modules_schedule.specs.SystemSchedule.{SystemSchedule}
use Rattle.c_syntax.specs.declared.Target.TheVariants.{Child}
use Rattle.c_syntax.specs.Tree.{StmtTree, assign, call, no_exprs}
use Rattle.emit_row_code.specs.RowCode.{written}
use Rattle.emit_shape.specs.Delays.{is_single, is_line}
use Rattle.emit_shape.specs.RowStarts.{row_start}
use Rattle.emit_shape.specs.Slots.{Slot, value, memory, trigger, instance, ring_slots, own_slots, or_filler}
use Rattle.emit_system_spec.specs.Fields.{value_rows, single_rows, line_rows, place_among, value_field, memory_field, ring_field, trigger_field, child_field, shared_groups, counter_slot, code_slots}
use Rattle.emit_system_spec.specs.Places.{child_base}
use Rattle.emit_system_spec.specs.Renewing.{zero_store, counter_stores, value_starts, single_starts, line_starts, trigger_starts, memory_starts, child_calls, start_body, reset_body}
use Rattle.right_system_starts.proofs.FieldCode.{field_code, fields_code}
use Rattle.right_system_starts.proofs.Lists.{length-enumerated}

-- ---- The place of a row among rows of different numbers

abbrev pub AreApart : List LocalRow → Type 0
AreApart [] = ⊤
AreApart (r ∷ rows) = ((q : LocalRow) → Contains rows q → r.row ≡ q.row → ⊥) × AreApart rows

pub are-apart : (rows : List LocalRow) → AreDifferent (map (λ (r : LocalRow). r.row) rows) → AreApart rows
are-apart [] differ = tt
are-apart (r ∷ rows) differ = (
  λ q h same.
      let at = at-in rows q h in
      let one : 0 ≡ suc at.0 = differ-at (map (λ (r : LocalRow). r.row) (r ∷ rows)) 0 (suc at.0) r.row differ refl
      (at-map (λ (r : LocalRow). r.row) rows at.0 q at.1 ∙ ap Some (sym same)) in
      omega (arith, one),
  are-apart rows (λ i j less below. differ (suc i) (suc j) (omega arith) (omega arith)),
)

pub apart-kept : (p : LocalRow → Bool) (rows : List LocalRow) → AreApart rows → AreApart (filter p rows)
apart-kept p [] h = tt
apart-kept p (r ∷ rows) h = by (p r) (apart-kept p rows h.1)
  where
    by : (t : Bool) → AreApart (filter p rows) → AreApart (cond t (r ∷ filter p rows) (filter p rows))
    by true rest = (λ q m. h.0 q (of-filter p rows q m).0, rest)
    by false rest = rest

place-from : (rows : List LocalRow) (i k : ℕ) (r : LocalRow) → AreApart rows → slice_get rows k ≡ Some r →
    position_from (λ key. key == r.row) i (map (λ (r : LocalRow). r.row) rows) ≡ Some (i + k)
place-from [] i k r h at = absurd (none-some r at)
place-from (q ∷ rows) i zero r h at =
    ap (λ t. cond t (Some i) (position_from (λ key. key == r.row) (i + 1) (map (λ (r : LocalRow). r.row) rows)))
    (eq-eqb q.row r.row (ap (λ (r : LocalRow). r.row) (same_Some q r at)))
    ∙ (let none : i ≡ i + 0 = omega arith in ap Some none)
place-from (q ∷ rows) i (suc k) r h at =
    ap (λ t. cond t (Some i) (position_from (λ key. key == r.row) (i + 1) (map (λ (r : LocalRow). r.row) rows)))
    (ne_eqb q.row r.row (h.0 r (in-at rows k r at)))
    ∙ place-from rows (i + 1) k r h.1 at
    ∙ (let next : i + 1 + k ≡ i + suc k = omega arith in ap Some next)

pub place-is : (rows : List LocalRow) (k : ℕ) (r : LocalRow) → AreApart rows → slice_get rows k ≡ Some r → place_among rows r.row ≡ k
place-is rows k r h at = ap (λ o. unwrap_or o 0) (place-from rows 0 k r h at) ∙ omega arith

-- ---- The parts of a body

module _ (all : Bool) (local : LocalSystem) (callee : ℕ → ChildUse → ℕ) where
  abbrev code : ℕ → List Slot → List StmtTree
  code = fields_code all local callee

  code-append : (f : ℕ) (xs ys : List Slot) → code f (xs ++ ys) ≡ code f xs ++ code (f + length xs) ys
  code-append f [] ys = let none : f ≡ f + 0 = omega arith in ap (λ g. code g ys) none
  code-append f (x ∷ xs) ys =
      let next : f + 1 + length xs ≡ f + suc (length xs) = omega arith in
      ap (λ rest. field_code all local callee f x ++ rest) (code-append (f + 1) xs ys ∙ ap (λ g. code (f + 1) xs ++ code g ys) next)
      ∙ sym (append_assoc (field_code all local callee f x) (code (f + 1) xs) (code (f + suc (length xs)) ys))

  -- without a filler, which has no code
  code-filled : (xs : List Slot) → code 0 (or_filler xs) ≡ code 0 xs
  code-filled [] = refl
  code-filled (x ∷ xs) = refl

  -- rows with a field each
  rows-code : (slot : LocalRow → Slot) (made : ℕ → LocalRow → StmtTree) (place : LocalRow → ℕ) →
      ((f : ℕ) (r : LocalRow) → field_code all local callee f (slot r) ≡ made f r ∷ []) → (rows : List LocalRow) (f : ℕ) →
      ((k : ℕ) (r : LocalRow) → slice_get rows k ≡ Some r → place r ≡ f + k) → code f (map slot rows) ≡ map (λ r. made (place r) r) rows
  rows-code slot made place each [] f at = refl
  rows-code slot made place each (r ∷ rows) f at =
      let here : f ≡ place r = sym (at 0 r refl ∙ omega arith) in
      ap (λ first. first ++ code (f + 1) (map slot rows)) (each f r)
      ∙ ap (λ g. made g r ∷ code (f + 1) (map slot rows)) here
      ∙ ap (λ rest. made (place r) r ∷ rest) (rows-code slot made place each rows (f + 1)
      (λ k q there. let next = at (suc k) q there in omega (arith, next)))

  -- rows with three fields each
  rings-code : (place : LocalRow → ℕ) (rows : List LocalRow) (f : ℕ) →
      ((k : ℕ) (r : LocalRow) → slice_get rows k ≡ Some r → place r ≡ f + 3 * k) →
      code f (flat_map ring_slots rows) ≡ flat_map (λ r. zero_store (place r + 1) ∷ zero_store (place r + 2) ∷ []) rows
  rings-code place [] f at = refl
  rings-code place (r ∷ rows) f at =
      let here : place r ≡ f = at 0 r refl ∙ omega arith in
      let first : f + 1 ≡ place r + 1 = omega (arith, here) in
      let second : f + 1 + 1 ≡ place r + 2 = omega (arith, here) in
      ap (λ g. zero_store g ∷ zero_store (f + 1 + 1) ∷ code (f + 1 + 1 + 1) (flat_map ring_slots rows)) first
      ∙ ap (λ g. zero_store (place r + 1) ∷ zero_store g ∷ code (f + 1 + 1 + 1) (flat_map ring_slots rows)) second
      ∙ ap (λ rest. zero_store (place r + 1) ∷ zero_store (place r + 2) ∷ rest) (rings-code place rows (f + 1 + 1 + 1)
      (λ k q there. let next = at (suc k) q there in omega (arith, next)))

  trigger-code : (t : Bool) (f : ℕ) → code f (if t then trigger ∷ [] else []) ≡ (if t then zero_store f ∷ [] else [])
  trigger-code true f = refl
  trigger-code false f = refl

  children-code : (base : ℕ) (us : List ChildUse) (n f : ℕ) → base + n ≡ f →
      code f (map (λ (e : ℕ × ChildUse). instance e.0 e.1) (enumerate_from n us))
      ≡ map (λ (e : ℕ × ChildUse). call 0 (callee e.0 e.1) (Child (base + e.0)) no_exprs) (enumerate_from n us)
  children-code base [] n f at = refl
  children-code base (u ∷ us) n f at =
      ap (λ g. call 0 (callee n u) (Child g) no_exprs ∷ code (f + 1)
      (map (λ (e : ℕ × ChildUse). instance e.0 e.1) (enumerate_from (n + 1) us))) (sym at)
      ∙ ap (λ rest. call 0 (callee n u) (Child (base + n)) no_exprs ∷ rest) (children-code base us (n + 1) (f + 1) (omega (arith, at)))

-- a start brings counters back
counters-code : (local : LocalSystem) (callee : ℕ → ChildUse → ℕ) (gs : List ℕ) (f : ℕ) →
    fields_code true local callee f (map counter_slot gs) ≡ map zero_store (range_with_len f (length gs))
counters-code local callee [] f = refl
counters-code local callee (g ∷ gs) f = ap (λ rest. zero_store f ∷ rest) (counters-code local callee gs (f + 1))

-- a reset does nothing with them, nor with values
no-counters : (local : LocalSystem) (callee : ℕ → ChildUse → ℕ) (gs : List ℕ) (f : ℕ) →
    fields_code false local callee f (map counter_slot gs) ≡ []
no-counters local callee [] f = refl
no-counters local callee (g ∷ gs) f = no-counters local callee gs (f + 1)

no-values : (local : LocalSystem) (callee : ℕ → ChildUse → ℕ) (rows : List LocalRow) (f : ℕ) →
    fields_code false local callee f (map value rows) ≡ []
no-values local callee [] f = refl
no-values local callee (r ∷ rows) f = no-values local callee rows (f + 1)

length-slots : {A : Type 0} (slot : A → Slot) (xs : List A) → length (map slot xs) ≡ length xs
length-slots slot [] = refl
length-slots slot (x ∷ xs) = ap suc (length-slots slot xs)

length-rings : (rows : List LocalRow) → length (flat_map ring_slots rows) ≡ 3 * length rows
length-rings [] = refl
length-rings (r ∷ rows) = let rest = length-rings rows in omega (arith, rest)

length-trigger : (t : Bool) → length (if t then trigger ∷ [] else []) ≡ (if t then 1 else 0)
length-trigger true = refl
length-trigger false = refl

regrouped : (a b c d e g : List StmtTree) → a ++ b ++ c ++ d ++ e ++ g ≡ a ++ (b ++ c ++ d) ++ e ++ g
regrouped a b c d e g = simp append_assoc

-- ---- The bodies

-- the procedure of a child that is so far after its functions, where so many are the system's own
abbrev pub behind_functions : LocalSystem → (count : ℕ) → ℕ → ℕ → ChildUse → ℕ
behind_functions local count i k u = child_base local count k + length (header_functions u.header) + i

module _ (local : LocalSystem) (schedule : SystemSchedule) (count : ℕ) (apart : AreApart local.rows) where
  abbrev value_slots : List Slot
  value_slots = map value (value_rows local)

  abbrev memory_slots : List Slot
  memory_slots = map memory (single_rows local)

  abbrev line_slots : List Slot
  line_slots = flat_map ring_slots (line_rows local)

  abbrev trigger_slots : List Slot
  trigger_slots = if is_triggered local.control then trigger ∷ [] else []

  abbrev child_slots : List Slot
  child_slots = map (λ (e : ℕ × ChildUse). instance e.0 e.1) (enumerate_from 0 local.children)

  abbrev counter_slots : List Slot
  counter_slots = map counter_slot (shared_groups schedule)

  -- where the parts of the struct begin
  to_memories : 0 + length value_slots ≡ length (value_rows local)
  to_memories = let v = length-slots value (value_rows local) in omega (arith, v)

  to_rings : 0 + length (value_slots ++ memory_slots) ≡ length (value_rows local) + length (single_rows local)
  to_rings =
      let v = length-slots value (value_rows local) in
      let m = length-slots memory (single_rows local) in
      let both = length-append value_slots memory_slots in omega (arith, v, m, both)

  to_trigger : 0 + length (value_slots ++ memory_slots ++ line_slots) ≡ trigger_field local
  to_trigger =
      let before = to_rings in
      let r = length-rings (line_rows local) in
      let both = length-append (value_slots ++ memory_slots) line_slots in omega (arith, before, r, both)

  abbrev children_base : ℕ
  children_base = trigger_field local + (if is_triggered local.control then 1 else 0)

  to_children : 0 + length (value_slots ++ memory_slots ++ line_slots ++ trigger_slots) ≡ children_base
  to_children =
      let before = to_trigger in
      let t = length-trigger (is_triggered local.control) in
      let both = length-append (value_slots ++ memory_slots ++ line_slots) trigger_slots in omega (arith, before, t, both)

  to_counters : 0 + length (value_slots ++ memory_slots ++ line_slots ++ trigger_slots ++ child_slots)
      ≡ child_field local (length local.children)
  to_counters =
      let before = to_children in
      let slots = length-slots (λ (e : ℕ × ChildUse). instance e.0 e.1) (enumerate_from 0 local.children) in
      let us = length-enumerated 0 local.children in
      let both = length-append (value_slots ++ memory_slots ++ line_slots ++ trigger_slots) child_slots in
      omega (arith, before, slots, us, both)

  module _ (all : Bool) (callee : ℕ → ChildUse → ℕ) where
    abbrev part : ℕ → List Slot → List StmtTree
    part = fields_code all local callee

    parted : part 0 (code_slots local schedule)
        ≡ part 0 value_slots ++ part (length (value_rows local)) memory_slots
        ++ part (length (value_rows local) + length (single_rows local)) line_slots
        ++ part (trigger_field local) trigger_slots ++ part children_base child_slots
        ++ part (child_field local (length local.children)) counter_slots
    parted =
        code-filled all local callee (own_slots local ++ counter_slots)
        ∙ code-append all local callee 0 (value_slots ++ memory_slots ++ line_slots ++ trigger_slots ++ child_slots) counter_slots
        ∙ ap (λ first. first ++ part (0 + length
        (value_slots ++ memory_slots ++ line_slots ++ trigger_slots ++ child_slots)) counter_slots)
        (code-append all local callee 0 (value_slots ++ memory_slots ++ line_slots ++ trigger_slots) child_slots
        ∙ ap (λ first. first ++ part (0 + length (value_slots ++ memory_slots ++ line_slots ++ trigger_slots)) child_slots)
        (code-append all local callee 0 (value_slots ++ memory_slots ++ line_slots) trigger_slots
        ∙ ap (λ first. first ++ part (0 + length (value_slots ++ memory_slots ++ line_slots)) trigger_slots)
        (code-append all local callee 0 (value_slots ++ memory_slots) line_slots
        ∙ ap (λ first. first ++ part (0 + length (value_slots ++ memory_slots)) line_slots)
        (code-append all local callee 0 value_slots memory_slots))))
        ∙ (λ i. part 0 value_slots ++ part (to_memories i) memory_slots ++ part (to_rings i) line_slots
        ++ part (to_trigger i) trigger_slots ++ part (to_children i) child_slots
        ++ part (to_counters i) counter_slots)

    memories-are : part (length (value_rows local)) memory_slots ≡ single_starts local
    memories-are =
        rows-code all local callee memory (λ f r. assign 0 f (written (row_start local r))) (λ r. memory_field local r.row) (λ f r. refl)
        (single_rows local) (length (value_rows local))
        (λ k r at. ap (λ p. length (value_rows local) + p)
        (place-is (single_rows local) k r (apart-kept (λ r. is_single r.op) local.rows apart) at))

    rings-are : part (length (value_rows local) + length (single_rows local)) line_slots ≡ line_starts local
    rings-are =
        rings-code all local callee (λ r. ring_field local r.row) (line_rows local) (length (value_rows local) + length (single_rows local))
        (λ k r at. ap (λ p. length (value_rows local) + length (single_rows local) + 3 * p)
        (place-is (line_rows local) k r (apart-kept (λ r. is_line r.op) local.rows apart) at))

    trigger-is : part (trigger_field local) trigger_slots ≡ trigger_starts local
    trigger-is = trigger-code all local callee (is_triggered local.control) (trigger_field local)

  calls-are : (all : Bool) (i : ℕ) → part all (behind_functions local count i) children_base child_slots ≡ child_calls local count i
  calls-are all i = children-code all local (behind_functions local count i) children_base local.children 0 children_base (omega arith)

  pub start-is : fields_code true local (behind_functions local count 1) 0 (code_slots local schedule) ≡ start_body local count schedule
  start-is =
      let first = rows-code true local (behind_functions local count 1) value (λ f r. assign 0 f (written (row_start local r)))
      (λ r. value_field local r.row) (λ f r. refl)
      (value_rows local) 0 (λ k r at. place-is (value_rows local) k r (apart-kept (λ r. has_value r.kind) local.rows apart) at
      ∙ omega arith) in
      let second = memories-are true (behind_functions local count 1) in
      let third = rings-are true (behind_functions local count 1) in
      let fourth = trigger-is true (behind_functions local count 1) in
      let fifth = calls-are true 1 in
      let sixth = counters-code local (behind_functions local count 1) (shared_groups schedule)
      (child_field local (length local.children)) in
      parted true (behind_functions local count 1)
      ∙ (λ i. first i ++ second i ++ third i ++ fourth i ++ fifth i ++ sixth i)
      ∙ regrouped (value_starts local) (single_starts local) (line_starts local) (trigger_starts local) (child_calls local count 1)
      (counter_stores local schedule)

  pub reset-is : fields_code false local (behind_functions local count 2) 0 (code_slots local schedule) ≡ reset_body local count
  reset-is =
      let first = no-values local (behind_functions local count 2) (value_rows local) 0 in
      let second = memories-are false (behind_functions local count 2) in
      let third = rings-are false (behind_functions local count 2) in
      let fourth = trigger-is false (behind_functions local count 2) in
      let fifth = calls-are false 2 in
      let sixth = no-counters local (behind_functions local count 2) (shared_groups schedule) (child_field local (length local.children)) in
      parted false (behind_functions local count 2)
      ∙ (λ i. first i ++ second i ++ third i ++ fourth i ++ fifth i ++ sixth i)
      ∙ append-nil (memory_starts local ++ child_calls local count 2)
