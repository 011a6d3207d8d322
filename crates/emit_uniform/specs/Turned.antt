-- A system's struct and procedures with other names: those of its fields, and those of systems.
-- What they name is found by its new name.
use Rattle.std.specs.Prelude.{ℕ, List, ◌++◌, map, drop, length, unwrap_or, bytes_eq}
use Rattle.std.specs.List.{position_from}
use Rattle.c_syntax.specs.declared.FieldKind.{FieldKind}
use Rattle.c_syntax.specs.declared.FieldKind.TheVariants.{Number, Array, Struct}
use Rattle.c_syntax.specs.Tree.{StmtTree, StmtTrees, FieldTree, StructTree, ProcedureTree, ProgramTree}
use Rattle.c_renaming.specs.Renamed.{renamed_stmt, renamed_stmts}
use Rattle.emit_shape.specs.Programs.{struct_at, procedure_at}

-- the new name of each field, and of each system
pub record Turn : Type 0 where
  pub field : List ℕ → List ℕ
  pub system : List ℕ → List ℕ

-- the place of a name among others
abbrev pub place_among : List (List ℕ) → List ℕ → ℕ
place_among names name = unwrap_or (position_from (λ other. bytes_eq other name) 0 names) 0

-- the names of a program's structs and procedures
abbrev pub struct_names : ProgramTree → List (List ℕ)
struct_names p = map (λ d. d.name) p.structs

abbrev pub names_of_procedures : ProgramTree → List (List ℕ)
names_of_procedures p = map (λ q. q.name) p.procedures

-- a procedure's name with that of another system, which it begins with
abbrev pub turned_name : Turn → (system name : List ℕ) → List ℕ
turned_name t system name = t.system system ++ drop (length system) name

-- only calls name procedures; a field of a child stays at its position
abbrev pub turned_stmt : (number : ℕ → ℕ) → StmtTree → StmtTree
turned_stmt number s = renamed_stmt (λ leaf. leaf) (λ k. k) number s

abbrev pub turned_stmts : (number : ℕ → ℕ) → StmtTrees → StmtTrees
turned_stmts number ss = renamed_stmts (λ leaf. leaf) (λ k. k) number ss

module _ (p : ProgramTree) (t : Turn) where
  -- where the struct at a position goes
  abbrev pub turned_place : ℕ → ℕ
  turned_place k = place_among (struct_names p) (t.system (struct_at p k).name)

  -- where the procedure at a position goes
  abbrev pub turned_number : ℕ → ℕ
  turned_number k =
      place_among (names_of_procedures p)
      (turned_name t (struct_at p (procedure_at p k).of).name (procedure_at p k).name)

  abbrev pub turned_kind : FieldKind → FieldKind
  turned_kind (Number type) = Number type
  turned_kind (Array type count) = Array type count
  turned_kind (Struct k) = Struct (turned_place k)

  abbrev pub turned_field : FieldTree → FieldTree
  turned_field f = record { name = t.field f.name; kind = turned_kind f.kind }

  abbrev pub turned_struct : StructTree → StructTree
  turned_struct d = record { name = t.system d.name; fields = map turned_field d.fields }

  abbrev pub turned_procedure : ProcedureTree → ProcedureTree
  turned_procedure q = record {
    name = turned_name t (struct_at p q.of).name q.name;
    private = q.private;
    of = turned_place q.of;
    params = q.params;
    body = turned_stmts turned_number q.body;
  }
