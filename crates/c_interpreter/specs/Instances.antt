-- The instances of a program's structs, numbered from the root's, which is 0: each before those
-- inside it, in the order of its fields.
use Rattle.std.specs.Prelude.{ℕ, ◌+◌, ℤ, List, [], ◌∷◌, ◌++◌, length, map, Option, Some, None, option_and_then, slice_get, slice_index_or, bytes_eq}
use Rattle.std.specs.List.{position_from}
use Rattle.c_syntax.specs.declared.program.FieldKind.{FieldKind}
use Rattle.c_syntax.specs.declared.program.FieldKind.TheVariants.{Number, Array, Struct}
use Rattle.c_syntax.specs.Tree.{FieldTree, StructTree, struct_fields, ProgramTree}
use Rattle.c_semantics.specs.Cells.{Cells, number_at, fields_at, cells_at}
use Rattle.c_syntax.specs.RootFields.{root_struct}

-- an instance: the positions of the fields that lead to it, and its struct
pub record StructInstance : Type 0 where
  pub path : List ℕ
  pub struct : ℕ

-- an instance of a struct, seen from itself
abbrev pub whole_instance : ℕ → StructInstance
whole_instance k = record { path = []; struct = k }

-- an instance inside the one in a field, seen from the instance that has the field
abbrev pub instance_under : ℕ → StructInstance → StructInstance
instance_under f i = record { path = f ∷ i.path; struct = i.struct }

-- the instances in a field; `earlier` has those of each struct that it may name
abbrev pub kind_instances : List (List StructInstance) → ℕ → FieldKind → List StructInstance
kind_instances earlier f (Number type) = []
kind_instances earlier f (Array type count) = []
kind_instances earlier f (Struct k) = map (instance_under f) (slice_index_or earlier k [])

-- the instances in the fields from a position on
abbrev pub field_instances : List (List StructInstance) → ℕ → List FieldTree → List StructInstance
field_instances earlier f [] = []
field_instances earlier f (x ∷ xs) =
    kind_instances earlier f x.kind ++ field_instances earlier (f + 1) xs

-- an instance of each struct, before those inside it; a struct holds only earlier ones
abbrev pub struct_instances : List (List StructInstance) → List StructTree →
    List (List StructInstance)
struct_instances earlier [] = earlier
struct_instances earlier (s ∷ ss) =
    struct_instances
    (earlier ++ (whole_instance (length earlier) ∷ field_instances earlier 0 s.fields) ∷ []) ss

-- the instances of a program, in the order of their numbers
abbrev pub instances : ProgramTree → List StructInstance
instances p = slice_index_or (struct_instances [] p.structs) (root_struct p) []

-- the instance with a number
abbrev pub instance_at : ProgramTree → ℕ → Option StructInstance
instance_at p i = slice_get (instances p) i

-- the position of the field with a name
abbrev pub field_named : List FieldTree → List ℕ → Option ℕ
field_named fields name = position_from (λ f. bytes_eq f.name name) 0 fields

-- the instance in a field of an instance, where the field is a struct
abbrev pub field_child : StructInstance → ℕ → FieldKind → Option StructInstance
field_child i f (Number type) = None
field_child i f (Array type count) = None
field_child i f (Struct k) = Some (record { path = i.path ++ f ∷ []; struct = k })

-- the instance in the struct field with a name, of an instance
abbrev pub child_named : ProgramTree → List ℕ → StructInstance → Option StructInstance
child_named p name i =
    option_and_then
    (λ f. option_and_then (λ x. field_child i f x.kind)
    (slice_get (struct_fields p.structs i.struct) f))
    (field_named (struct_fields p.structs i.struct) name)

-- the number in a field of these, where the field is one
abbrev pub field_number : Cells → ℕ → FieldKind → Option ℤ
field_number cells f (Number type) = Some (number_at cells f)
field_number cells f (Array type count) = None
field_number cells f (Struct k) = None

-- the number in the number field with a name, of an instance below these fields of the root
abbrev pub number_named : ProgramTree → Cells → List ℕ → StructInstance → Option ℤ
number_named p cells name i =
    option_and_then (λ f. option_and_then (λ x. field_number (cells_at i.path cells) f x.kind)
    (slice_get (struct_fields p.structs i.struct) f))
    (field_named (struct_fields p.structs i.struct) name)
