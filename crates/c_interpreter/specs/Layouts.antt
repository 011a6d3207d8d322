-- The places of the fields of each struct.
use Rattle.std.specs.Prelude.{◌≡◌, ℕ, ◌+◌, List, [], ◌∷◌, ◌++◌, length, slice_index_or}
use Rattle.c_semantics.specs.Cells.{Cells, no_cells, zero_cells}
use Rattle.c_interpreter.specs.States.{numbers_of}
use Rattle.c_syntax.specs.declared.program.FieldKind.{FieldKind}
use Rattle.c_syntax.specs.declared.program.FieldKind.TheVariants as kind
use Rattle.c_syntax.specs.Tree.{FieldTree, StructTree, struct_fields}
use Rattle.c_interpreter.specs.declared.slots.Slot.{Slot}
use Rattle.c_interpreter.specs.declared.slots.Slot.TheVariants.{Number, Array, Instance}
use Rattle.c_interpreter.specs.Slots.{StructLayout, layout_at}

-- how many numbers a field has
abbrev pub kind_size : List StructLayout → FieldKind → ℕ
kind_size earlier (kind.Number type) = 1
kind_size earlier (kind.Array type count) = count
kind_size earlier (kind.Struct k) = (layout_at earlier k).size

-- a field that begins there
abbrev pub slot_of : List StructLayout → ℕ → FieldKind → Slot
slot_of earlier at (kind.Number type) = Number at type
slot_of earlier at (kind.Array type count) = Array at count type
slot_of earlier at (kind.Struct k) = Instance at (layout_at earlier k).size k

-- fields, one after the other
abbrev pub slots_from : List StructLayout → ℕ → List FieldTree → List Slot
slots_from earlier at [] = []
slots_from earlier at (f ∷ fs) =
    slot_of earlier at f.kind ∷ slots_from earlier (at + kind_size earlier f.kind) fs

-- where they end
abbrev pub end_of : List StructLayout → ℕ → List FieldTree → ℕ
end_of earlier at [] = at
end_of earlier at (f ∷ fs) = end_of earlier (at + kind_size earlier f.kind) fs

-- a struct with these fields; it holds only earlier ones
abbrev pub layout_of : List StructLayout → List FieldTree → StructLayout
layout_of earlier fields =
    record { size = end_of earlier 0 fields; slots = slots_from earlier 0 fields }

-- the structs of a list
abbrev pub layouts_of : List StructLayout → List StructTree → List StructLayout
layouts_of earlier [] = earlier
layouts_of earlier (s ∷ ss) = layouts_of (earlier ++ layout_of earlier s.fields ∷ []) ss

-- the layouts of structs, whose instances with all numbers 0 are these
pub record AreLaidOut (structs : List StructTree) (layouts : List StructLayout)
    (zeros : List Cells) : Type 0 where
  pub sized : (k : ℕ) →
      (layout_at layouts k).size ≡ length (numbers_of (slice_index_or zeros k no_cells))
  pub zero_is : (k : ℕ) →
      slice_index_or zeros k no_cells ≡ zero_cells zeros (struct_fields structs k)
  pub slots_are : (k : ℕ) →
      (layout_at layouts k).slots ≡ slots_from layouts 0 (struct_fields structs k)
