-- Where each slot of a system's code is.
use Rattle.std.specs.Prelude.{◌≡◌, ℕ, zero, suc, ◌+◌, ◌*◌, Bool, true, false, ◌==◌, cond, if◌then◌else◌, List, [], ◌∷◌, ◌++◌, map, flat_map, length, slice_get, Contains, Some, unwrap_or, refl}
use Rattle.std.specs.List.{position_from, enumerate_from, AllZip}
use Rattle.std.proofs.Common.{sym, ap, subst, ◌∙◌, ◌⊎◌, arith, inl, inr, true≢false}
use Rattle.std.proofs.lemmas.Bool.{eqb-true, eq-eqb}
use Rattle.std.proofs.lemmas.List.{length-map}
use Rattle.std.proofs.lemmas.Option.{same_Some, none-some}
use Rattle.diagram_blocks.specs.Meaning.{has_value}
use Rattle.diagram_meaning.specs.Rows.{is_triggered}
use Rattle.modules_profile.specs.declared.local.ChildUse.{ChildUse}
use Rattle.modules_profile.specs.declared.local.LocalRow.{LocalRow}
use Rattle.modules_profile.specs.LocalSystem.{LocalSystem}
use Rattle.modules_profile.specs.LawfulLocals.{IsLocal}
use Rattle.modules_profile.proofs.lemmas.Members.{in-none, in-first, in-rest, in-cases, in-filter, of-filter, in-at, at-in, at-map, at-left, at-right}
use Rattle.modules_profile.proofs.lemmas.OwnRows.{differ-at}
use Rattle.modules_schedule.specs.SystemSchedule.{SystemSchedule}
use Rattle.emit_shape.specs.Delays.{is_single, is_line}
use Rattle.emit_shape.specs.Slots.{Slot, value, memory, ring_items, ring_place, ring_taken, trigger, instance, ring_slots, own_slots, or_filler}
use Rattle.emit_system_spec.specs.Fields.{value_rows, single_rows, line_rows, numbers, place_among, value_field, memory_field, ring_field, trigger_field, child_field, shared_groups, counter_slot, code_slots}

-- ---- First places

-- a number that is there has a first place
pub first-at : (rows : List LocalRow) (i : ℕ) (r : LocalRow) → Contains rows r →
    (k : ℕ) × (q : LocalRow) × (position_from (λ key. key == r.row) i (numbers rows) ≡ Some (i + k)) × (slice_get rows k ≡ Some q) ×
    (q.row ≡ r.row)
first-at [] i r h = absurd (in-none r h)
first-at (q ∷ rows) i r h = by (q.row == r.row) refl (in-cases q r rows h) (λ more. first-at rows (i + 1) r more)
  where
    by : (t : Bool) → (q.row == r.row) ≡ t → (q ≡ r) ⊎ Contains rows r →
        (Contains rows r → (k : ℕ) × (p : LocalRow) × (position_from (λ key. key == r.row) (i + 1) (numbers rows) ≡ Some (i + 1 + k)) ×
        (slice_get rows k ≡ Some p) × (p.row ≡ r.row)) →
        (k : ℕ) × (p : LocalRow) × (cond t (Some i) (position_from (λ key. key == r.row) (i + 1) (numbers rows)) ≡ Some (i + k)) ×
        (slice_get (q ∷ rows) k ≡ Some p) × (p.row ≡ r.row)
    by true e h later = (0, q, ap Some (let stay : i ≡ i + 0 = omega arith in stay), refl, eqb-true q.row r.row e)
    by false e (inl same) later = absurd (true≢false (sym (eq-eqb q.row r.row (ap (λ (p : LocalRow). p.row) same)) ∙ e))
    by false e (inr more) later =
        let m = later more in
        (suc m.0, m.1, m.2 ∙ ap Some (let next : i + 1 + m.0 ≡ i + suc m.0 = omega arith in next), m.3, m.4)

-- own rows of one number are one
pub one-row : (local : LocalSystem) → IsLocal local → (o p : LocalRow) → Contains local.rows o → Contains local.rows p → o.row ≡ p.row →
    o ≡ p
one-row local lawful o p here there same =
    let i = at-in local.rows o here in
    let k = at-in local.rows p there in
    let number : LocalRow → ℕ = λ r. r.row in
    let place : i.0 ≡ k.0 = differ-at (map number local.rows) i.0 k.0 p.row lawful.rows_differ
    (at-map number local.rows i.0 o i.1 ∙ ap Some same) (at-map number local.rows k.0 p k.1) in
    same_Some o p (sym i.1 ∙ ap (slice_get local.rows) place ∙ k.1)

-- among some of the own rows, the row is at the first place of its number
place-at : (local : LocalSystem) → IsLocal local → (rows : List LocalRow) (r : LocalRow) →
    ((q : LocalRow) → Contains rows q → Contains local.rows q) →
    Contains rows r → slice_get rows (place_among rows r.row) ≡ Some r
place-at local lawful rows r own h =
    let m = first-at rows 0 r h in
    let place : place_among rows r.row ≡ m.0 = ap (λ o. unwrap_or o 0) m.2 ∙ (let none : 0 + m.0 ≡ m.0 = omega arith in none) in
    let same : m.1 ≡ r = one-row local lawful m.1 r (own m.1 (in-at rows m.0 m.1 m.3)) (own r h) m.4 in
    ap (slice_get rows) place ∙ m.3 ∙ ap Some same

-- ---- Lists of slots

filled-at : (xs : List Slot) (k : ℕ) (x : Slot) → slice_get xs k ≡ Some x → slice_get (or_filler xs) k ≡ Some x
filled-at [] k x e = absurd (none-some x e)
filled-at (y ∷ ys) k x e = e

-- the three slots of each ring are together
ring-at : (rows : List LocalRow) (k : ℕ) (r : LocalRow) → slice_get rows k ≡ Some r →
    (slice_get (flat_map ring_slots rows) (3 * k) ≡ Some (ring_items r)) × (slice_get (flat_map ring_slots rows) (3 * k + 1)
    ≡ Some (ring_place r)) × (slice_get (flat_map ring_slots rows) (3 * k + 2) ≡ Some (ring_taken r))
ring-at [] k r e = absurd (none-some r e)
ring-at (q ∷ rows) zero r e =
    let same : q ≡ r = same_Some q r e in
    (ap (λ x. Some (ring_items x)) same, ap (λ x. Some (ring_place x)) same, ap (λ x. Some (ring_taken x)) same)
ring-at (q ∷ rows) (suc k) r e =
    let rest = ring-at rows k r e in
    let shift : (j : ℕ) (x : Slot) → slice_get (flat_map ring_slots rows) j ≡ Some x →
    slice_get (ring_slots q ++ flat_map ring_slots rows) (3 + j) ≡ Some x = λ j x h. at-right (ring_slots q)
    (flat_map ring_slots rows) j x h in
    let move : (i j : ℕ) (x : Slot) → i ≡ j → slice_get (flat_map ring_slots (q ∷ rows)) i ≡ Some x →
    slice_get (flat_map ring_slots (q ∷ rows)) j ≡ Some x = λ i j x same h. subst (λ n. slice_get (flat_map ring_slots (q ∷ rows)) n
    ≡ Some x) same h in (
      move (3 + 3 * k) (3 * suc k) (ring_items r) (omega arith) (shift (3 * k) (ring_items r) rest.0),
      move (3 + (3 * k + 1)) (3 * suc k + 1) (ring_place r) (omega arith) (shift (3 * k + 1) (ring_place r) rest.1),
      move (3 + (3 * k + 2)) (3 * suc k + 2) (ring_taken r) (omega arith) (shift (3 * k + 2) (ring_taken r) rest.2),
    )

rings-long : (rows : List LocalRow) → length (flat_map ring_slots rows) ≡ 3 * length rows
rings-long [] = refl
rings-long (q ∷ rows) = let rest = rings-long rows in omega (arith, rest)

numbered-at : {A B : Type 0} (f : ℕ × A → B) (n : ℕ) (xs : List A) (k : ℕ) (x : A) → slice_get xs k ≡ Some x →
    slice_get (map f (enumerate_from n xs)) k ≡ Some (f (n + k, x))
numbered-at f n [] k x e = absurd (none-some x e)
numbered-at f n (y ∷ ys) zero x e = ap (λ z. Some (f (n, z))) (same_Some y x e) ∙ ap (λ i. Some (f (i, x)))
    (let stay : n ≡ n + 0 = omega arith in stay)
numbered-at f n (y ∷ ys) (suc k) x e = numbered-at f (n + 1) ys k x e ∙ ap (λ i. Some (f (i, x))) (let next : n + 1 + k ≡ n + suc k =
    omega arith in next)

length-numbered : {A B : Type 0} (f : ℕ × A → B) (n : ℕ) (xs : List A) → length (map f (enumerate_from n xs)) ≡ length xs
length-numbered f n [] = refl
length-numbered f n (x ∷ xs) = ap suc (length-numbered f (n + 1) xs)

length-if : {A : Type 0} (t : Bool) (x : A) → length (if t then x ∷ [] else []) ≡ (if t then 1 else 0)
length-if true x = refl
length-if false x = refl

length-append : {A : Type 0} (xs ys : List A) → length (xs ++ ys) ≡ length xs + length ys
length-append [] ys = omega arith
length-append (x ∷ xs) ys = let rest = length-append xs ys in omega (arith, rest)

module _ (local : LocalSystem) (schedule : SystemSchedule) where
  abbrev values : List Slot
  values = map value (value_rows local)

  abbrev memories : List Slot
  memories = map memory (single_rows local)

  abbrev rings : List Slot
  rings = flat_map ring_slots (line_rows local)

  abbrev triggers : List Slot
  triggers = if is_triggered local.control then trigger ∷ [] else []

  abbrev instances : List Slot
  instances = map (λ (e : ℕ × ChildUse). instance e.0 e.1) (enumerate_from 0 local.children)

  abbrev counters : List Slot
  counters = map counter_slot (shared_groups schedule)

  long-values : length values ≡ length (value_rows local)
  long-values = length-map (value_rows local) value

  long-memories : length (values ++ memories) ≡ length (value_rows local) + length (single_rows local)
  long-memories =
      let a = long-values in let b = length-map (single_rows local) memory in let both = length-append values memories in
      omega (arith, a, b, both)

  long-rings : length (values ++ memories ++ rings) ≡ trigger_field local
  long-rings =
      let a = long-memories in let b = rings-long (line_rows local) in let both = length-append (values ++ memories) rings in
      omega (arith, a, b, both)

  long-triggers : length (values ++ memories ++ rings ++ triggers) ≡ trigger_field local + (if is_triggered local.control then 1 else 0)
  long-triggers =
      let a = long-rings in let b = length-if (is_triggered local.control) trigger in let both =
      length-append (values ++ memories ++ rings) triggers in
      omega (arith, a, b, both)

  long-own : length (own_slots local) ≡ child_field local (length local.children)
  long-own =
      let a = long-triggers in
      let b = length-numbered (λ (e : ℕ × ChildUse). instance e.0 e.1) 0 local.children in
      let both = length-append (values ++ memories ++ rings ++ triggers) instances in
      omega (arith, a, b, both)

  all-at : (k : ℕ) (x : Slot) → slice_get (own_slots local ++ counters) k ≡ Some x → slice_get (code_slots local schedule) k ≡ Some x
  all-at k x e = filled-at (own_slots local ++ counters) k x e

  own-at : (k : ℕ) (x : Slot) → slice_get (own_slots local) k ≡ Some x → slice_get (code_slots local schedule) k ≡ Some x
  own-at k x e = all-at k x (at-left (own_slots local) counters k x e)

  -- before the children
  early-at : (k : ℕ) (x : Slot) → slice_get (values ++ memories ++ rings) k ≡ Some x → slice_get (code_slots local schedule) k ≡ Some x
  early-at k x e =
      own-at k x (at-left (values ++ memories ++ rings ++ triggers) instances k x (at-left (values ++ memories ++ rings) triggers k x e))

  pub child-at : (k : ℕ) (u : ChildUse) → slice_get local.children k ≡ Some u → slice_get (code_slots local schedule)
      (child_field local k) ≡ Some (instance k u)
  child-at k u e =
      let long = long-triggers in
      let here = numbered-at (λ (e : ℕ × ChildUse). instance e.0 e.1) 0 local.children k u e in
      let none : 0 + k ≡ k = omega arith in
      let at = at-right (values ++ memories ++ rings ++ triggers) instances k (instance k u) (here ∙ ap (λ i. Some (instance i u)) none) in
      own-at (child_field local k) (instance k u) (subst (λ n. slice_get (own_slots local) n ≡ Some (instance k u))
      (ap (λ n. n + k) long) at)

  pub counter-at : (k g : ℕ) → slice_get (shared_groups schedule) k ≡ Some g → slice_get (code_slots local schedule)
      (child_field local (length local.children) + k) ≡ Some (counter_slot g)
  counter-at k g e =
      let at = at-right (own_slots local) counters k (counter_slot g) (at-map counter_slot (shared_groups schedule) k g e) in
      all-at (child_field local (length local.children) + k) (counter_slot g)
      (subst (λ n. slice_get (own_slots local ++ counters) n ≡ Some (counter_slot g)) (ap (λ n. n + k) long-own) at)

  pub trigger-at : is_triggered local.control ≡ true → slice_get (code_slots local schedule) (trigger_field local) ≡ Some trigger
  trigger-at is =
      let here : slice_get triggers 0 ≡ Some trigger = ap (λ (t : Bool). slice_get (if t then trigger ∷ [] else []) 0) is in
      let at = at-right (values ++ memories ++ rings) triggers 0 trigger here in
      let same : length (values ++ memories ++ rings) + 0 ≡ trigger_field local = (let long = long-rings in omega (arith, long)) in
      own-at (trigger_field local) trigger (at-left (values ++ memories ++ rings ++ triggers) instances (trigger_field local) trigger
      (subst (λ n. slice_get (values ++ memories ++ rings ++ triggers) n ≡ Some trigger) same at))

  module _ (lawful : IsLocal local) (r : LocalRow) (own : Contains local.rows r) where
    pub value-at : has_value r.kind ≡ true → slice_get (code_slots local schedule) (value_field local r.row) ≡ Some (value r)
    value-at is =
        let rows = value_rows local in
        let place = place-at local lawful rows r (λ q h. (of-filter (λ (q : LocalRow). has_value q.kind) local.rows q h).0)
        (in-filter (λ (q : LocalRow). has_value q.kind) local.rows r own is) in
        let k = value_field local r.row in
        early-at k (value r) (at-left (values ++ memories) rings k (value r)
        (at-left values memories k (value r) (at-map value rows k r place)))

    pub memory-at : is_single r.op ≡ true → slice_get (code_slots local schedule) (memory_field local r.row) ≡ Some (memory r)
    memory-at is =
        let rows = single_rows local in
        let place = place-at local lawful rows r (λ q h. (of-filter (λ (q : LocalRow). is_single q.op) local.rows q h).0)
        (in-filter (λ (q : LocalRow). is_single q.op) local.rows r own is) in
        let k = place_among rows r.row in
        let at = at-right values memories k (memory r) (at-map memory rows k r place) in
        early-at (memory_field local r.row) (memory r) (at-left (values ++ memories) rings (memory_field local r.row) (memory r)
        (subst (λ n. slice_get (values ++ memories) n ≡ Some (memory r)) (ap (λ n. n + k) long-values) at))

    pub record HasRing : Type 0 where
      pub items : slice_get (code_slots local schedule) (ring_field local r.row) ≡ Some (ring_items r)
      pub place : slice_get (code_slots local schedule) (ring_field local r.row + 1) ≡ Some (ring_place r)
      pub taken : slice_get (code_slots local schedule) (ring_field local r.row + 2) ≡ Some (ring_taken r)

    pub ring-slots-at : is_line r.op ≡ true → HasRing
    ring-slots-at is =
        let rows = line_rows local in
        let place = place-at local lawful rows r (λ q h. (of-filter (λ (q : LocalRow). is_line q.op) local.rows q h).0)
        (in-filter (λ (q : LocalRow). is_line q.op) local.rows r own is) in
        let k = place_among rows r.row in
        let three = ring-at rows k r place in
        let long = long-memories in
        let at : (i j : ℕ) (x : Slot) → length (values ++ memories) + i ≡ j → slice_get rings i ≡ Some x →
        slice_get (code_slots local schedule) j ≡ Some x =
        λ i j x same e. early-at j x (subst (λ n. slice_get (values ++ memories ++ rings) n ≡ Some x) same
        (at-right (values ++ memories) rings i x e)) in
        record {
          items = at (3 * k) (ring_field local r.row) (ring_items r) (omega (arith, long)) three.0;
          place = at (3 * k + 1) (ring_field local r.row + 1) (ring_place r) (omega (arith, long)) three.1;
          taken = at (3 * k + 2) (ring_field local r.row + 2) (ring_taken r) (omega (arith, long)) three.2;
        }

-- each place has what a function gives
pub zip-map : {A B : Type 0} (P : A → B → Type 0) (f : A → B) (xs : List A) → ((x : A) → Contains xs x → P x (f x)) → AllZip P xs (map f xs)
zip-map P f [] each = tt
zip-map P f (x ∷ xs) each = (each x (in-first x xs), zip-map P f xs (λ y h. each y (in-rest x y xs h)))
