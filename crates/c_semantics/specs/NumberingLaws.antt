-- What code sees of procedures: those that it calls, by whatever numbers, and of a program those
-- before it.
use Rattle.std.specs.Prelude.{◌≡◌, ℕ, ◌+◌, ◌<◌, ⊤, List, length, take, slice_get, Some}
use Rattle.c_syntax.specs.declared.code.Target.{Target}
use Rattle.c_syntax.specs.Tree.{StmtTree, assign, assign_at, branch, call, StmtTrees, no_stmts, more_stmts, StructTree, struct_fields, field_types, ProcedureTree}
use Rattle.c_semantics.specs.Cells.{Cells}
use Rattle.c_semantics.specs.Values.{Function}
use Rattle.c_semantics.specs.Machine.{Routine, routine_at, routines_of, Scope, run_stmts}
use Rattle.c_semantics.specs.CallLaws.{IsRoutineOf}

-- a scope with other procedures
abbrev pub with_routines : Scope → List Routine → Scope
with_routines s rs =
    record { functions = s.functions; routines = rs; types = s.types; values = s.values }

-- ---- What code calls

abbrev mutual
  -- P holds of the number of each procedure that a statement calls, and of the call's target
  pub Calls : (ℕ → Target → Type 0) → StmtTree → Type 0
  Calls P (assign line f e) = ⊤
  Calls P (assign_at line f index e) = ⊤
  Calls P (branch line test on_true on_false) = AllCalls P on_true × AllCalls P on_false
  Calls P (call line k target es) = P k target

  -- the same of the statements of a list
  pub AllCalls : (ℕ → Target → Type 0) → StmtTrees → Type 0
  AllCalls P no_stmts = ⊤
  AllCalls P (more_stmts s ss) = Calls P s × AllCalls P ss

-- code does the same among other procedures, if those that it calls are the same there
abbrev pub CodeSeesWhatItCalls : Type 0
CodeSeesWhatItCalls =
    (scope : Scope) (routines : List Routine) (stmts : StmtTrees) (cells : Cells) (steps : ℕ) →
    AllCalls (λ k target. routine_at scope.routines k ≡ routine_at routines k) stmts →
    run_stmts scope stmts cells steps ≡ run_stmts (with_routines scope routines) stmts cells steps

-- ---- Another numbering

abbrev mutual
  -- a statement is another except for the numbers of the procedures that both call, which are related
  -- by R
  pub IsRenumbered : (ℕ → ℕ → Type 0) → StmtTree → StmtTree → Type 0
  IsRenumbered R (assign line f e) other = assign line f e ≡ other
  IsRenumbered R (assign_at line f index e) other = assign_at line f index e ≡ other
  IsRenumbered R (branch line test on_true on_false) other =
      (first : StmtTrees) × (second : StmtTrees) × (branch line test first second ≡ other)
      × AreRenumbered R on_true first
      × AreRenumbered R on_false second
  IsRenumbered R (call line k target es) other = (j : ℕ) × (call line j target es ≡ other) × R k j

  -- the same of the statements of two lists
  pub AreRenumbered : (ℕ → ℕ → Type 0) → StmtTrees → StmtTrees → Type 0
  AreRenumbered R no_stmts others = no_stmts ≡ others
  AreRenumbered R (more_stmts s ss) others =
      (t : StmtTree) × (ts : StmtTrees) × (more_stmts t ts ≡ others) × IsRenumbered R s t
      × AreRenumbered R ss ts

-- code with other numbers does the same among procedures that are under those numbers
abbrev pub ProcedureNumbersAreFree : Type 0
ProcedureNumbersAreFree =
    (scope : Scope) (routines : List Routine) (stmts others : StmtTrees) (cells : Cells)
    (steps : ℕ) →
    AreRenumbered (λ k j. routine_at scope.routines k ≡ routine_at routines j) stmts others →
    run_stmts scope stmts cells steps ≡ run_stmts (with_routines scope routines) others cells steps

-- ---- The procedures of a program

-- Procedures that come after earlier ones: each is numbered by its place, and sees those before
-- it alone. What is found at a place is found there among the first procedures too, so that code
-- which calls none but those does the same among them.
pub record StandInOrder (structs : List StructTree) (functions : List Function)
    (earlier : List Routine)
    (ps : List ProcedureTree) : Type 0 where
  pub count : length (routines_of structs functions earlier ps) ≡ length earlier + length ps
  pub routine : (j : ℕ) (p : ProcedureTree) → slice_get ps j ≡ Some p →
      IsRoutineOf functions (routines_of structs functions earlier (take j ps))
      (field_types (struct_fields structs p.of))
      (length earlier + j) p
      (routine_at (routines_of structs functions earlier ps) (length earlier + j))
  pub found : (j k : ℕ) → k < length earlier + j →
      routine_at (routines_of structs functions earlier ps) k
      ≡ routine_at (routines_of structs functions earlier (take j ps)) k
  pub same : (scope : Scope) (j : ℕ) (stmts : StmtTrees) (cells : Cells) (steps : ℕ) →
      AllCalls (λ k target. k < length earlier + j) stmts →
      run_stmts (with_routines scope (routines_of structs functions earlier ps)) stmts cells steps
      ≡ run_stmts (with_routines scope (routines_of structs functions earlier (take j ps))) stmts
      cells steps

abbrev pub ProceduresStandInOrder : Type 0
ProceduresStandInOrder =
    (structs : List StructTree) (functions : List Function) (earlier : List Routine)
    (ps : List ProcedureTree) →
    StandInOrder structs functions earlier ps
