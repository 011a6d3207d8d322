-- Programs by names: their structs, the procedures of each, and what positions stand for.
use Rattle.std.specs.Prelude.{ℕ, ◌==◌, true, List, [], filter, slice_index_or, Option, unwrap_or, bytes_eq}
use Rattle.std.specs.List.{position_from}
use Rattle.c_syntax.specs.declared.CType.TheVariants.{I64}
use Rattle.c_syntax.specs.declared.FieldKind.{FieldKind}
use Rattle.c_syntax.specs.declared.FieldKind.TheVariants.{Number, Array, Struct}
use Rattle.c_syntax.specs.Tree.{FieldTree, StructTree, no_struct, struct_fields, ProcedureTree, ProgramTree, no_stmts}
use Rattle.c_syntax.specs.RootFields.{struct_named}
use Rattle.modules_profile.specs.Systems.{system_name}
use Rattle.emit_shape.specs.Heads.{head_of}
use Rattle.emit_shape.specs.CodeNames.{CodeNames}

abbrev pub struct_at : ProgramTree → ℕ → StructTree
struct_at p k = slice_index_or p.structs k no_struct

abbrev pub no_field : FieldTree
no_field = record { name = []; kind = Number I64 }

abbrev pub no_procedure : ProcedureTree
no_procedure = record { name = []; private = true; of = 0; params = []; body = no_stmts }

abbrev pub procedure_at : ProgramTree → ℕ → ProcedureTree
procedure_at p k = slice_index_or p.procedures k no_procedure

-- the fields of what a field holds, none of a number
abbrev pub kind_fields : ProgramTree → FieldKind → List FieldTree
kind_fields p (Number type) = []
kind_fields p (Array type count) = []
kind_fields p (Struct k) = struct_fields p.structs k

-- the field at a position of a struct
abbrev pub field_in : ProgramTree → ℕ → ℕ → FieldTree
field_in p of f = slice_index_or (struct_fields p.structs of) f no_field

-- what positions stand for in the procedures of the struct at a position
abbrev pub names_in : ProgramTree → ℕ → CodeNames
names_in p of = record {
  own = λ f. (field_in p of f).name;
  inner = λ f g. (slice_index_or (kind_fields p (field_in p of f).kind) g no_field).name;
  struct = λ k. (struct_at p k).name;
  callee = λ k. head_of (procedure_at p k);
}

-- the procedures of the struct at a position
abbrev pub procedures_of : ProgramTree → ℕ → List ProcedureTree
procedures_of p of = filter (λ q. q.of == of) p.procedures

-- the position of the procedure with a name, and of the struct of a system
abbrev pub procedure_place : ProgramTree → List ℕ → ℕ
procedure_place p name = unwrap_or (position_from (λ q. bytes_eq q.name name) 0 p.procedures) 0

abbrev pub struct_place : ProgramTree → Option ℕ → ℕ
struct_place p s = unwrap_or (struct_named p (system_name s)) 0
