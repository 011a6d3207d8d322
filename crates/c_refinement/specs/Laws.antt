-- Laws of refinement: how one follows from the code, and that refinements compose.
use Rattle.std.specs.Prelude.{◌≡◌, ℕ, Bool, true, List, map, unwrap_or, codes, ℤ}
use Rattle.c_syntax.specs.Tree.{ProcedureTree, ProgramTree}
use Rattle.c_syntax.specs.RootFields.{procedure_named}
use Rattle.c_semantics.specs.Cells.{Cells}
use Rattle.c_semantics.specs.Machine.{Routine, routine_at, program_routines, Scope, call_from_outside}
use Rattle.c_semantics.specs.NumberingLaws.{with_routines}
use Rattle.c_semantics.specs.Rows.{c_rows, start_run}
use Rattle.c_refinement.specs.Refinement.{RefinesBy, kept_all, in_place}
use Rattle.c_refinement.specs.Routines.{RefinesRoutine, RefinesStmts, IsSteadyScope}

-- ---- From procedures

-- the procedure of a name is kept, and is at its place
pub record KeepsNamed (place : ℕ → ℕ) (keeps : ℕ → Bool) (p q : ProgramTree)
    (name : List ℕ) : Type 0 where
  pub kept : keeps (unwrap_or (procedure_named p name) 0) ≡ true
  pub moved : unwrap_or (procedure_named q name) 0 ≡ place (unwrap_or (procedure_named p name) 0)

-- the fields are the same, and each procedure that is kept refines at its place; those with which
-- a run begins are
pub record RefinesProcedures (place : ℕ → ℕ) (keeps : ℕ → Bool) (p q : ProgramTree) : Type 0 where
  pub structs : q.structs ≡ p.structs
  pub routines : (k : ℕ) → keeps k ≡ true →
      RefinesRoutine place (routine_at (program_routines p) k)
      (routine_at (program_routines q) (place k))
  pub start : KeepsNamed place keeps p q (codes "root_start")
  pub step : KeepsNamed place keeps p q (codes "root_step")

-- a program whose procedures refine another's refines it
abbrev pub ProceduresRefine : Type 0
ProceduresRefine = (place : ℕ → ℕ) (keeps : ℕ → Bool) (p q : ProgramTree) →
    RefinesProcedures place keeps p q → RefinesBy place keeps p q

-- ---- From bodies

-- procedures change in their bodies alone, and each body refines the one before in a steady scope,
-- wherever the procedures that it calls do
pub record RefinesBodies (change : ProcedureTree → ProcedureTree) : Type 0 where
  pub names : (h : ProcedureTree) → (change h).name ≡ h.name
  pub params : (h : ProcedureTree) → (change h).params ≡ h.params
  pub of : (h : ProcedureTree) → (change h).of ≡ h.of
  pub bodies : (h : ProcedureTree) (s : Scope) (routines : List Routine) → IsSteadyScope s →
      ((k : ℕ) → RefinesRoutine in_place (routine_at s.routines k) (routine_at routines k)) →
      RefinesStmts in_place s (with_routines s routines) h.body (change h).body

-- a program with other bodies
abbrev pub with_bodies : (ProcedureTree → ProcedureTree) → ProgramTree → ProgramTree
with_bodies change p =
    record { pures = p.pures; structs = p.structs; procedures = map change p.procedures }

abbrev pub BodiesRefine : Type 0
BodiesRefine = (change : ProcedureTree → ProcedureTree) (p : ProgramTree) → RefinesBodies change →
    RefinesBy in_place kept_all p (with_bodies change p)

-- ---- From others

-- what refines a program that refines another refines that too, by the places of its places
abbrev pub RefinementsCompose : Type 0
RefinementsCompose =
    (place further : ℕ → ℕ) (keeps holds : ℕ → Bool) (p q r : ProgramTree) →
    RefinesBy place keeps p q →
    RefinesBy further holds q r →
    ((k : ℕ) → keeps k ≡ true → holds (place k) ≡ true) →
    RefinesBy (λ k. further (place k)) keeps p r

-- a program that does the same refines
abbrev pub SameRunsRefine : Type 0
SameRunsRefine = (p q : ProgramTree) →
    ((k : ℕ) (path : List ℕ) (values : List ℤ) (cells : Cells) →
    call_from_outside q k path values cells ≡ call_from_outside p k path values cells) →
    start_run q ≡ start_run p →
    ((trace : List (List ℤ)) → c_rows q trace ≡ c_rows p trace) →
    RefinesBy in_place kept_all p q
