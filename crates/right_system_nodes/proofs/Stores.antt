-- What executions leave and how often they store a field; what is in a slot's field, and which numbers it takes.
use Rattle.std.specs.Prelude.{◌≡◌, ℕ, zero, suc, ◌+◌, ◌≤◌, Bool, true, false, cond, ◌&&◌, ◌==◌, if◌then◌else◌, List, [], ◌∷◌, map, length, count_by, slice_get, Some, refl}
use Rattle.std.proofs.Common.{sym, ap, subst, ◌∙◌, arith}
use Rattle.std.proofs.lemmas.Bool.Decides.{nat_tests}
use Rattle.std.proofs.lemmas.Option.{same_Some, none-some}
use Rattle.std.proofs.lemmas.List.Sums.{sum_by-cons}
use Rattle.c_syntax.specs.declared.code.CType.{CType}
use Rattle.c_syntax.specs.Tree.{kind_type, field_types, type_at}
use Rattle.c_semantics.specs.Cells.{Cell, number, items, object, Cells, no_cells, more_cells, cell_value, cell_items, cell_at, set_cell}
use Rattle.c_semantics.specs.Machine.{LoggedCall, StoredField, Outcome, done, stuck, call_under, store_under, in_child}
use Rattle.emit_shape.specs.Slots.{Slot, slot_field}
use Rattle.emit_row_code.specs.StatementLaws.{own_store, leaves}
use Rattle.right_relation.specs.Instances.{same_path, stores_at, OnDone, Leaves}
use Rattle.right_relation.specs.NodeStatements.{IsNumberIn, IsArrayOf, HasSlot, HasSlots, stored_once, stored_each, stored_inside}

-- ---- Fields

pub set-same : (cells : Cells) (f : ℕ) (c : Cell) → cell_at cells f ≡ c → set_cell cells f c ≡ cells
set-same no_cells f c is = refl
set-same (more_cells b cs) zero c is = ap (λ d. more_cells d cs) (sym is)
set-same (more_cells b cs) (suc f) c is = ap (more_cells b) (set-same cs f c is)

pub set-apart : (cells : Cells) (f g : ℕ) (c d : Cell) → (f ≡ g → ⊥) →
    set_cell (set_cell cells f c) g d ≡ set_cell (set_cell cells g d) f c
set-apart no_cells f g c d apart = refl
set-apart (more_cells b cs) zero zero c d apart = absurd (apart refl)
set-apart (more_cells b cs) zero (suc g) c d apart = refl
set-apart (more_cells b cs) (suc f) zero c d apart = refl
set-apart (more_cells b cs) (suc f) (suc g) c d apart = ap (more_cells b) (set-apart cs f g c d (λ e. apart (ap suc e)))

pub other-at : (cells : Cells) (f g : ℕ) (c : Cell) → (f ≡ g → ⊥) → cell_at (set_cell cells f c) g ≡ cell_at cells g
other-at no_cells f g c apart = refl
other-at (more_cells b cs) zero zero c apart = absurd (apart refl)
other-at (more_cells b cs) zero (suc g) c apart = refl
other-at (more_cells b cs) (suc f) zero c apart = refl
other-at (more_cells b cs) (suc f) (suc g) c apart = other-at cs f g c (λ e. apart (ap suc e))

-- a slot's field has its shape
pub slot-has : (slots : List Slot) (cells : Cells) (f : ℕ) (x : Slot) → HasSlots slots cells → slice_get slots f ≡ Some x →
    HasSlot x (cell_at cells f)
slot-has [] no_cells f x shape at = absurd (none-some x at)
slot-has [] (more_cells c cs) f x shape at = absurd shape
slot-has (y ∷ slots) no_cells f x shape at = absurd shape
slot-has (y ∷ slots) (more_cells c cs) zero x shape at = subst (λ z. HasSlot z c) (same_Some y x at) shape.0
slot-has (y ∷ slots) (more_cells c cs) (suc f) x shape at = slot-has slots cs f x shape.1 at

pub is-number : (type : CType) (c : Cell) → IsNumberIn type c → c ≡ number (cell_value c)
is-number type (number v) is = refl
is-number type (items vs) is = absurd is
is-number type (object cells) is = absurd is

pub is-array : (n : ℕ) (c : Cell) → IsArrayOf n c → (c ≡ items (cell_items c)) × (length (cell_items c) ≡ n)
is-array n (number v) is = absurd is
is-array n (items vs) is = (refl, is)
is-array n (object cells) is = absurd is

-- the type of a slot's field
pub slot-type : (slots : List Slot) (f : ℕ) (x : Slot) → slice_get slots f ≡ Some x →
    type_at (field_types (map slot_field slots)) f ≡ kind_type (slot_field x).kind
slot-type [] f x at = absurd (none-some x at)
slot-type (y ∷ slots) zero x at = ap (λ z. kind_type (slot_field z).kind) (same_Some y x at)
slot-type (y ∷ slots) (suc f) x at = slot-type slots f x at

-- ---- Stores

abbrev one-if : Bool → ℕ
one-if t = cond t 1 0

flip : (a b : ℕ) → (a == b) ≡ (b == a)
flip a b = by (a == b) (b == a) refl refl
  where
    by : (s t : Bool) → (a == b) ≡ s → (b == a) ≡ t → s ≡ t
    by true true e f = refl
    by false false e f = refl
    by true false e f = absurd (grind (arith, nat_tests))
    by false true e f = absurd (grind (arith, nat_tests))

count-cons : {A : Type 0} (p : A → Bool) (x : A) (xs : List A) → count_by p (x ∷ xs) ≡ cond (p x) 1 0 + count_by p xs
count-cons p x xs = sum_by-cons (λ y. cond (p y) 1 0) x xs

none-inside : (h : ℕ) (path : List ℕ) (field : ℕ) (stored : List ℕ) → stores_at (h ∷ path) field (map own_store stored) ≡ 0
none-inside h path field [] = refl
none-inside h path field (f ∷ stored) =
    let rest = none-inside h path field stored in
    let more = count-cons (λ (st : StoredField). same_path (h ∷ path) st.path && (st.field == field)) (own_store f)
    (map own_store stored) in
    omega (arith, rest, more)

own-count : (field : ℕ) (stored : List ℕ) → stores_at [] field (map own_store stored) ≡ count_by (λ f. field == f) stored
own-count field [] = refl
own-count field (f ∷ stored) =
    let rest = own-count field stored in
    let more = count-cons (λ (st : StoredField). same_path [] st.path && (st.field == field)) (own_store f)
    (map own_store stored) in
    let other = count-cons (λ g. field == g) f stored in
    let same = ap one-if (flip f field) in
    omega (arith, rest, more, other, same)

-- nothing is stored
pub stores-nothing : (stored : List ℕ → ℕ → ℕ) (path : List ℕ) (field : ℕ) →
    stores_at path field (map own_store []) ≤ stored path field
stores-nothing stored path field = let none : stores_at path field (map own_store []) ≡ 0 = refl in omega (arith, none)

-- one field is
pub stores-once : (f : ℕ) (path : List ℕ) (field : ℕ) → stores_at path field (map own_store (f ∷ [])) ≤ stored_once f path field
stores-once f [] field =
    let own = own-count field (f ∷ []) in
    let one = count-cons (λ g. field == g) f [] in
    let none : count_by (λ g. field == g) [] ≡ 0 = refl in
    omega (arith, own, one, none)
stores-once f (h ∷ path) field = let none = none-inside h path field (f ∷ []) in omega (arith, none)

-- these are
pub stores-each : (fs : List ℕ) (stored : List ℕ) →
    ((field : ℕ) → count_by (λ f. field == f) stored ≤ count_by (λ f. field == f) fs) →
    (path : List ℕ) (field : ℕ) → stores_at path field (map own_store stored) ≤ stored_each fs path field
stores-each fs stored fewer [] field = let own = own-count field stored in let few = fewer field in omega (arith, own, few)
stores-each fs stored fewer (h ∷ path) field = let none = none-inside h path field stored in omega (arith, none)

pub three-turned : (f g h field : ℕ) → count_by (λ x. field == x) (f ∷ h ∷ g ∷ []) ≤ count_by (λ x. field == x) (f ∷ g ∷ h ∷ [])
three-turned f g h field =
    let a = count-cons (λ x. field == x) f (h ∷ g ∷ []) in let b = count-cons (λ x. field == x) h (g ∷ []) in
    let c = count-cons (λ x. field == x) g [] in
    let d = count-cons (λ x. field == x) f (g ∷ h ∷ []) in let e = count-cons (λ x. field == x) g (h ∷ []) in
    let i = count-cons (λ x. field == x) h [] in
    omega (arith, a, b, c, d, e, i)

pub two-of-three : (f g h field : ℕ) → count_by (λ x. field == x) (g ∷ h ∷ []) ≤ count_by (λ x. field == x) (f ∷ g ∷ h ∷ [])
two-of-three f g h field = let d = count-cons (λ x. field == x) f (g ∷ h ∷ []) in omega (arith, d)

-- ---- What is left

-- an execution that leaves this does what is asked
pub leaves-done : (o : Outcome) (cells after : Cells) (end most : ℕ) (fields : List ℕ) (stored : List ℕ → ℕ → ℕ) →
    o ≡ leaves cells end fields → cells ≡ after → end ≤ most →
    ((path : List ℕ) (field : ℕ) → stores_at path field (map own_store fields) ≤ stored path field) →
    OnDone o (Leaves after most [] stored)
leaves-done o cells after end most fields stored is same room few =
    subst (λ x. OnDone x (Leaves after most [] stored)) (sym is)
    (record { fields = same; in_time = room; calls = refl; stores = few })

-- so does one in the instance at a field
inside-count : (f : ℕ) (path : List ℕ) (h field : ℕ) (stores : List StoredField) →
    stores_at (h ∷ path) field (map (store_under f) stores) ≡ (if h == f then stores_at path field stores else 0)
inside-count f path h field [] = by (h == f)
  where
    by : (t : Bool) → stores_at (h ∷ path) field [] ≡ (if t then stores_at path field [] else 0)
    by true = refl
    by false = refl
inside-count f path h field (st ∷ stores) =
    more ∙ by (h == f) (inside-count f path h field stores)
  where
    more : stores_at (h ∷ path) field (map (store_under f) (st ∷ stores))
        ≡ one-if ((h == f) && same_path path st.path && (st.field == field)) + stores_at (h ∷ path) field
        (map (store_under f) stores)
    more = count-cons (λ (s : StoredField). same_path (h ∷ path) s.path && (s.field == field)) (store_under f st)
        (map (store_under f) stores)

    here : stores_at path field (st ∷ stores) ≡ one-if (same_path path st.path && (st.field == field)) + stores_at path field stores
    here = count-cons (λ (s : StoredField). same_path path s.path && (s.field == field)) st stores

    by : (t : Bool) → stores_at (h ∷ path) field (map (store_under f) stores) ≡ (if t then stores_at path field stores else 0) →
        one-if (t && same_path path st.path && (st.field == field)) + stores_at (h ∷ path) field (map (store_under f) stores)
        ≡ (if t then stores_at path field (st ∷ stores) else 0)
    by true rest = omega (arith, here, rest)
    by false rest = omega (arith, rest)

none-own : (f field : ℕ) (stores : List StoredField) → stores_at [] field (map (store_under f) stores) ≡ 0
none-own f field [] = refl
none-own f field (st ∷ stores) =
    let rest = none-own f field stores in
    let more = count-cons (λ (s : StoredField). same_path [] s.path && (s.field == field)) (store_under f st)
    (map (store_under f) stores) in
    omega (arith, rest, more)

stores-inside : (f : ℕ) (stored : List ℕ → ℕ → ℕ) (stores : List StoredField) →
    ((path : List ℕ) (field : ℕ) → stores_at path field stores ≤ stored path field) →
    (path : List ℕ) (field : ℕ) → stores_at path field (map (store_under f) stores) ≤ stored_inside f stored path field
stores-inside f stored stores few [] field = let none = none-own f field stores in omega (arith, none)
stores-inside f stored stores few (h ∷ path) field =
    subst (λ n. n ≤ (if h == f then stored path field else 0)) (sym (inside-count f path h field stores)) (by (h == f))
  where
    by : (t : Bool) → (if t then stores_at path field stores else 0) ≤ (if t then stored path field else 0)
    by true = few path field
    by false = omega arith

pub child-done : (f : ℕ) (cells inner : Cells) (o : Outcome) (most : ℕ) (log : List LoggedCall) (stored : List ℕ → ℕ → ℕ) →
    OnDone o (Leaves inner most log stored) →
    OnDone (in_child f cells o) (Leaves (set_cell cells f (object inner)) most (map (call_under f) log) (stored_inside f stored))
child-done f cells inner (done a) most log stored left = record {
  fields = ap (λ c. set_cell cells f (object c)) left.fields;
  in_time = left.in_time;
  calls = ap (map (call_under f)) left.calls;
  stores = stores-inside f stored a.stores left.stores;
}
child-done f cells inner (stuck at c) most log stored left = absurd left
