-- What the fields of an instance hold, slot by slot.
use Rattle.std.specs.Prelude.{◌≡◌, ℕ, zero, suc, Bool, true, false, ◌==◌, if◌then◌else◌, List, [], ◌∷◌, length, replicate, slice_get, Some, ℤ, pos, refl}
use Rattle.std.proofs.Common.{ap, arith, eq-eqb}
use Rattle.std.proofs.lemmas.Bool.{eqb-true}
use Rattle.modules_profile.specs.LocalSystem.{LocalSystem}
use Rattle.c_syntax.specs.declared.CType.{CType}
use Rattle.c_semantics.specs.Cells.{Cell, number, items, object, Cells, no_cells, more_cells, cell_at, cell_value, cell_items}
use Rattle.emit_shape.specs.Slots.{Slot}
use Rattle.right_relation.specs.Forms.{Forms, holds_number, holds_array, HasForm, HasForms, slot_forms}
use Rattle.right_relation.specs.LocalTicks.{LocalTick}
use Rattle.right_relation.specs.Instances.{InstanceTick}
use Rattle.right_relation.specs.Renewals.{Renewal}
use Rattle.right_relation.specs.StandingLaws.{BeginsFrom, BeginsFromAll}

-- ---- Numbers of an array

-- these numbers where they are so many, else as many zeros
abbrev pub sized : ℕ → List ℤ → List ℤ
sized n vs = if length vs == n then vs else replicate n (pos 0)

length-zeros : (n : ℕ) (v : ℤ) → length (replicate n v) ≡ n
length-zeros zero v = refl
length-zeros (suc n) v = let rest = length-zeros n v in omega (arith, rest)

pub sized-long : (n : ℕ) (vs : List ℤ) → length (sized n vs) ≡ n
sized-long n vs = by (length vs == n) refl
  where
    by : (t : Bool) → (length vs == n) ≡ t → length (if t then vs else replicate n (pos 0)) ≡ n
    by true e = eqb-true (length vs) n e
    by false e = length-zeros n (pos 0)

pub sized-same : (n : ℕ) (vs : List ℤ) → length vs ≡ n → sized n vs ≡ vs
sized-same n vs same = ap (λ t. if t then vs else replicate n (pos 0)) (eq-eqb (length vs) n same)

-- ---- Forms

pub array-items : (type : CType) (count : ℕ) (c : Cell) → HasForm (holds_array type count) c →
    (c ≡ items (cell_items c)) × (length (cell_items c) ≡ count)
array-items type count (number v) has = absurd has
array-items type count (items vs) has = (refl, has.0)
array-items type count (object cells) has = absurd has

pub number-held : (type : CType) (c : Cell) → HasForm (holds_number type) c → c ≡ number (cell_value c)
number-held type (number v) has = refl
number-held type (items vs) has = absurd has
number-held type (object cells) has = absurd has

-- ---- Slots

-- what each slot begins from they all do
pub begins-all : (local : LocalSystem) (m : LocalTick) (renewals : List Renewal) (children : List InstanceTick) (forms : List Forms)
    (slots : List Slot) (before : Cells) → HasForms (slot_forms forms slots) before →
    ((f : ℕ) (x : Slot) → slice_get slots f ≡ Some x → BeginsFrom local m renewals children x (cell_at before f)) →
    BeginsFromAll local m renewals children slots before
begins-all local m renewals children forms [] before has each = tt
begins-all local m renewals children forms (x ∷ slots) no_cells has each = absurd has
begins-all local m renewals children forms (x ∷ slots) (more_cells c cells) has each =
    (each zero x refl, begins-all local m renewals children forms slots cells has.1 (λ f y at. each (suc f) y at))
