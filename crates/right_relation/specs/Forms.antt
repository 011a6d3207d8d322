-- What fields the instances of a struct have, whatever numbers are in them.
use Rattle.std.specs.Prelude.{◌≡◌, ℕ, List, [], ◌∷◌, ◌++◌, map, length, slice_index_or, IsTrue, ⊤}
use Rattle.std.specs.List.{AllByRecursion}
use Rattle.c_syntax.specs.declared.CType.{CType}
use Rattle.c_syntax.specs.declared.FieldKind.{FieldKind}
use Rattle.c_syntax.specs.declared.FieldKind.TheVariants.{Number, Array, Struct}
use Rattle.c_syntax.specs.Tree.{FieldTree, StructTree}
use Rattle.c_semantics.specs.Cells.{Cell, number, items, object, Cells, no_cells, more_cells}
use Rattle.c_semantics.specs.Values.{is_in_type}
use Rattle.emit_shape.specs.Slots.{Slot, slot_field}

-- What a field holds: a number of a type, an array of so many, or an instance.
mutual
  pub data Form : Type 0 where
    holds_number : (type : CType) → Form
    holds_array : (type : CType) (count : ℕ) → Form
    holds_instance : (fields : Forms) → Form

  pub data Forms : Type 0 where
    no_forms : Forms
    more_forms : (first : Form) (rest : Forms) → Forms

abbrev mutual
  -- the field holds that
  pub HasForm : Form → Cell → Type 0
  HasForm (holds_number type) (number v) = IsTrue (is_in_type type v)
  HasForm (holds_number type) (items vs) = ⊥
  HasForm (holds_number type) (object cells) = ⊥
  HasForm (holds_array type count) (number v) = ⊥
  HasForm (holds_array type count) (items vs) =
      (length vs ≡ count) × AllByRecursion (λ v. IsTrue (is_in_type type v)) vs
  HasForm (holds_array type count) (object cells) = ⊥
  HasForm (holds_instance fields) (number v) = ⊥
  HasForm (holds_instance fields) (items vs) = ⊥
  HasForm (holds_instance fields) (object cells) = HasForms fields cells

  -- each field does
  pub HasForms : Forms → Cells → Type 0
  HasForms no_forms no_cells = ⊤
  HasForms no_forms (more_cells c cells) = ⊥
  HasForms (more_forms form forms) no_cells = ⊥
  HasForms (more_forms form forms) (more_cells c cells) = HasForm form c × HasForms forms cells

abbrev pub forms_of : List Form → Forms
forms_of [] = no_forms
forms_of (form ∷ forms) = more_forms form (forms_of forms)

-- what a field of this kind holds, where these are the forms of the structs that it may name
abbrev pub kind_form : List Forms → FieldKind → Form
kind_form structs (Number type) = holds_number type
kind_form structs (Array type count) = holds_array type count
kind_form structs (Struct k) = holds_instance (slice_index_or structs k no_forms)

-- what a field of a program's struct holds
abbrev pub field_form : List Forms → FieldTree → Form
field_form earlier f = kind_form earlier f.kind

-- what a slot holds, where these are the forms of the children
abbrev pub slot_form : List Forms → Slot → Form
slot_form children slot = field_form children (slot_field slot)

abbrev pub slot_forms : List Forms → List Slot → Forms
slot_forms children slots = forms_of (map (slot_form children) slots)

-- the forms of structs, each of which holds only earlier ones
abbrev pub struct_forms : List Forms → List StructTree → List Forms
struct_forms earlier [] = earlier
struct_forms earlier (s ∷ structs) =
    struct_forms (earlier ++ forms_of (map (field_form earlier) s.fields) ∷ []) structs
