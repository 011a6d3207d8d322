-- Fields that were renewed hold what their slots do, and are what a start or a reset makes of them.
use Rattle.std.specs.Prelude.{◌≡◌, Bool, true, false, if◌then◌else◌, List, [], ◌∷◌, map, Contains, pos, ⊤, refl}
use Rattle.std.proofs.Common.{sym, subst, inl}
use Rattle.modules_profile.specs.LocalSystem.{LocalSystem}
use Rattle.modules_profile.proofs.lemmas.Members.{in-first, in-rest}
use Rattle.c_semantics.specs.Cells.{Cell, number, Cells, no_cells, more_cells, cell_fields}
use Rattle.c_semantics.specs.Values.{is_in_type}
use Rattle.emit_shape.specs.Names.{container}
use Rattle.emit_shape.specs.RowStarts.{row_start}
use Rattle.emit_shape.specs.Slots.{Slot, value, memory, ring_items, ring_place, ring_taken, trigger, counter, instance, filler}
use Rattle.right_relation.specs.Forms.{Forms, holds_number, HasForm, HasForms, slot_form, slot_forms}
use Rattle.right_relation.specs.Instances.{Offered}
use Rattle.right_relation.specs.Renewals.{Renewal, renewal_at, Renews, IsStarted, IsReset, AllSlots}
use Rattle.right_system_starts.proofs.FieldCode.{renewed_cell, renewed_cells}
use Rattle.right_system_starts.proofs.FieldRuns.{zero-fits, forms-at, inside-forms}

module _ (all : Bool) (local : LocalSystem) (children : List Renewal) where
  abbrev made : Slot → Cell → Cell
  made = renewed_cell all local children

  abbrev child_forms : List Forms
  child_forms = map (λ n. n.forms) children

  -- starts lie in the C types of their fields, and a child's procedure renews its fields
  abbrev pub IsFit : Slot → Type 0
  IsFit (value r) = is_in_type (container r.out) (row_start local r) ≡ true
  IsFit (memory r) = is_in_type (container r.out) (row_start local r) ≡ true
  IsFit (instance k u) = (q : Offered) × Renews q (renewal_at children k)
  IsFit _ = ⊤

  has : (s : Slot) (b : Cell) → IsFit s → HasForm (slot_form child_forms s) b → HasForm (slot_form child_forms s) (made s b)
  has (value r) b fit h = by all
    where
      by : (t : Bool) → HasForm (holds_number (container r.out)) (if t then number (row_start local r) else b)
      by true = fit
      by false = h
  has (memory r) b fit h = fit
  has (ring_items r) b fit h = h
  has (ring_place r) b fit h = refl
  has (ring_taken r) b fit h = refl
  has trigger b fit h = refl
  has (counter name type) b fit h = by all
    where
      by : (t : Bool) → HasForm (holds_number type) (if t then number (pos 0) else b)
      by true = zero-fits type
      by false = h
  has (instance k u) b fit h =
      subst (λ forms. HasForms forms ((renewal_at children k).renewed (cell_fields b))) (sym (forms-at children k))
      (fit.1.keeps (cell_fields b) (inside-forms children k u b h))
  has filler b fit h = h

  pub have-forms : (slots : List Slot) (before : Cells) → ((s : Slot) → Contains slots s → IsFit s) →
      HasForms (slot_forms child_forms slots) before →
      HasForms (slot_forms child_forms slots) (renewed_cells all local children slots before)
  have-forms [] no_cells fit h = tt
  have-forms [] (more_cells c cells) fit h = absurd h
  have-forms (s ∷ slots) no_cells fit h = absurd h
  have-forms (s ∷ slots) (more_cells b cells) fit h =
      (has s b (fit s (in-first s slots)) h.0, have-forms slots cells (λ q m. fit q (in-rest s q slots m)) h.1)

  pub become : (IsSo : Slot → Cell → Cell → Type 0) → ((s : Slot) (b : Cell) → IsSo s b (made s b)) → (slots : List Slot) (before : Cells) →
      HasForms (slot_forms child_forms slots) before → AllSlots IsSo slots before (renewed_cells all local children slots before)
  become IsSo so [] no_cells h = tt
  become IsSo so [] (more_cells c cells) h = absurd h
  become IsSo so (s ∷ slots) no_cells h = absurd h
  become IsSo so (s ∷ slots) (more_cells b cells) h = (so s b, become IsSo so slots cells h.1)

pub is-started : (local : LocalSystem) (children : List Renewal) (s : Slot) (b : Cell) →
    IsStarted local children s b (renewed_cell true local children s b)
is-started local children (value r) b = refl
is-started local children (memory r) b = refl
is-started local children (ring_items r) b = refl
is-started local children (ring_place r) b = refl
is-started local children (ring_taken r) b = refl
is-started local children trigger b = refl
is-started local children (counter name type) b = refl
is-started local children (instance k u) b = refl
is-started local children filler b = refl

pub is-reset : (local : LocalSystem) (children : List Renewal) (s : Slot) (b : Cell) →
    IsReset local children s b (renewed_cell false local children s b)
is-reset local children (counter name type) b = inl refl
is-reset local children _ b = refl
