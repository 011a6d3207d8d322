-- What the machine needs of a program to run it, which each lawful program has.
use Rattle.std.specs.Prelude.{◌≡◌, ℕ, ℤ, ◌<◌, ◌≤◌, Bool, List, [], length, map, take, Some, slice_get, slice_index_or, ⊤}
use Rattle.c_syntax.specs.declared.code.CType.{CType}
use Rattle.c_syntax.specs.declared.code.Target.{Target}
use Rattle.c_syntax.specs.declared.code.Target.TheVariants.{Own, Child}
use Rattle.c_syntax.specs.declared.program.FieldKind.TheVariants.{Number, Array, Struct}
use Rattle.c_syntax.specs.Tree.{StmtTree, assign, assign_at, branch, call, StmtTrees, no_stmts, more_stmts, FieldTree, struct_fields, field_types, ProcedureTree, ProgramTree}
use Rattle.c_semantics.specs.Cells.{Cells, no_cells, zero_instances}
use Rattle.c_syntax.specs.Lawful.{exprs_length}
use Rattle.c_semantics.specs.Machine.{Scope, routines_of, is_interface}
use Rattle.c_semantics.specs.Values.{functions_of}
use Rattle.c_interpreter.specs.Reads.{IsNarrowExpr, AreNarrowExprs, IsNarrowCond, AreNarrow}
use Rattle.c_interpreter.specs.Slots.{StructLayout}
use Rattle.c_interpreter.specs.Layouts.{AreLaidOut}

-- a field of a struct is a number
pub record IsNumberField (p : ProgramTree) (of f : ℕ) : Type 0 where
  pub field : FieldTree
  pub type : CType
  pub there : slice_get (struct_fields p.structs of) f ≡ Some field
  pub kind_is : field.kind ≡ Number type

-- a field of a struct is an array
pub record IsArrayField (p : ProgramTree) (of f : ℕ) : Type 0 where
  pub field : FieldTree
  pub type : CType
  pub count : ℕ
  pub there : slice_get (struct_fields p.structs of) f ≡ Some field
  pub kind_is : field.kind ≡ Array type count

-- a field of a struct is an instance
pub record IsInstanceField (p : ProgramTree) (of f : ℕ) : Type 0 where
  pub field : FieldTree
  pub struct : ℕ
  pub there : slice_get (struct_fields p.structs of) f ≡ Some field
  pub kind_is : field.kind ≡ Struct struct

-- the procedure at a position is one of this struct
pub record IsProcedureOf (p : ProgramTree) (k of : ℕ) : Type 0 where
  pub procedure : ProcedureTree
  pub there : slice_get p.procedures k ≡ Some procedure
  pub of_is : procedure.of ≡ of

-- a call of the procedure at a position on a target, from an instance of a struct
abbrev pub IsCallOf : ProgramTree → ℕ → ℕ → Target → Type 0
IsCallOf p of k Own = IsProcedureOf p k of
IsCallOf p of k (Child f) = (h : IsInstanceField p of f) × IsProcedureOf p k h.struct

-- it has so many arguments, and there is room for them
pub record HasArguments (p : ProgramTree) (k count : ℕ) : Type 0 where
  pub procedure : ProcedureTree
  pub there : slice_get p.procedures k ≡ Some procedure
  pub count_is : count ≡ length procedure.params
  pub room : count ≤ 64

abbrev mutual
  -- a statement of a procedure at a position, of a struct: stores go to numbers and items of
  -- arrays, calls to earlier procedures of their targets
  pub IsSoundStmt : ProgramTree → ℕ → ℕ → StmtTree → Type 0
  IsSoundStmt p level of (assign line f e) = IsNumberField p of f × IsNarrowExpr e
  IsSoundStmt p level of (assign_at line f index e) =
      IsArrayField p of f × IsNarrowExpr index × IsNarrowExpr e
  IsSoundStmt p level of (branch line test on_true on_false) =
      IsNarrowCond test × AreSoundStmts p level of on_true × AreSoundStmts p level of on_false
  IsSoundStmt p level of (call line k target es) =
      IsCallOf p of k target × HasArguments p k (exprs_length es) × (k < level) × AreNarrowExprs es

  pub AreSoundStmts : ProgramTree → ℕ → ℕ → StmtTrees → Type 0
  AreSoundStmts p level of no_stmts = ⊤
  AreSoundStmts p level of (more_stmts s ss) =
      IsSoundStmt p level of s × AreSoundStmts p level of ss

-- an instance of each struct with all numbers 0
abbrev pub zeros_of : ProgramTree → List Cells
zeros_of p = zero_instances [] p.structs

-- an instance of the struct at a position with all numbers 0
abbrev pub zero_at : ProgramTree → ℕ → Cells
zero_at p of = slice_index_or (zeros_of p) of no_cells

-- what a body of the procedure at a position sees
abbrev pub scope_at : ProgramTree → ℕ → ℕ → List ℤ → Scope
scope_at p level of values =
    record {
      functions = functions_of [] p.pures;
      routines = routines_of p.structs (functions_of [] p.pures) [] (take level p.procedures);
      types = field_types (struct_fields p.structs of);
      values = values;
    }

-- a program with the tables that the machine made for it
pub record IsReady (p : ProgramTree) (layouts : List StructLayout)
    (logged : List Bool) : Type 0 where
  pub laid : AreLaidOut p.structs layouts (zeros_of p)
  pub logged_is : logged ≡ map (λ q. is_interface q.name) p.procedures
  pub narrow : AreNarrow p.pures
  pub sound : (k : ℕ) (q : ProcedureTree) → slice_get p.procedures k ≡ Some q →
      AreSoundStmts p k q.of q.body
