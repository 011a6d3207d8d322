-- Structs, procedures and fields by their names, and the outputs among the fields of the root's
-- struct.
use Rattle.std.specs.Prelude.{ℕ, Bool, true, false, List, map, Option, unwrap_or, filter, codes, bytes_eq}
use Rattle.std.specs.List.{position_from}
use Rattle.c_syntax.specs.declared.program.FieldKind.{FieldKind}
use Rattle.c_syntax.specs.declared.program.FieldKind.TheVariants.{Number, Array, Struct}
use Rattle.c_syntax.specs.Tree.{struct_fields, FieldTree, ProgramTree}
use Rattle.c_syntax.specs.Outputs.{output_names}

-- a kind is a number
abbrev pub is_number_kind : FieldKind → Bool
is_number_kind (Number type) = true
is_number_kind (Array type count) = false
is_number_kind (Struct k) = false

-- the positions of the struct and of the procedure with a name
abbrev pub struct_named : ProgramTree → List ℕ → Option ℕ
struct_named p name = position_from (λ s. bytes_eq s.name name) 0 p.structs

-- the position of the procedure with a name
abbrev pub procedure_named : ProgramTree → List ℕ → Option ℕ
procedure_named p name = position_from (λ q. bytes_eq q.name name) 0 p.procedures

-- the position of the field with a name, and 0 where there is none; it is asked for names of fields
-- only
abbrev pub field_position : List FieldTree → List ℕ → ℕ
field_position fields name = unwrap_or (position_from (λ f. bytes_eq f.name name) 0 fields) 0

-- a field is a number
abbrev pub is_number : FieldTree → Bool
is_number f = is_number_kind f.kind

-- the names of the number fields
abbrev pub number_names : List FieldTree → List (List ℕ)
number_names fields = map (λ f. f.name) (filter is_number fields)

-- the positions of the outputs among these fields: y1, y2 and so on, without a gap
abbrev pub output_fields : List FieldTree → List ℕ
output_fields fields = map (field_position fields) (output_names (number_names fields))

-- the position of the root's struct, and 0 where there is none, which no lawful program lacks
abbrev pub root_struct : ProgramTree → ℕ
root_struct p = unwrap_or (struct_named p (codes "root")) 0

-- the fields of the root's struct
abbrev pub root_fields : ProgramTree → List FieldTree
root_fields p = struct_fields p.structs (root_struct p)
