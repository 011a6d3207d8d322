-- When statements and procedures refine others.
use Rattle.std.specs.Prelude.{◌≡◌, ℕ, ◌≤◌, List, ℤ, ⊤}
use Rattle.c_syntax.specs.Tree.{StmtTree, StmtTrees}
use Rattle.c_semantics.specs.Cells.{Cells}
use Rattle.c_semantics.specs.Machine.{Outcome, done, stuck, Routine, routine_at, Scope, run_stmt, run_stmts}
use Rattle.c_refinement.specs.Evaluations.{AreSteady}
use Rattle.c_refinement.specs.Refinement.{Refines, in_place}

-- where the procedures of the one program are in the other
module _ (place : ℕ → ℕ) where
  -- from any fields and any count of steps, and the other from a lower one
  pub record RefinesRoutine (r other : Routine) : Type 0 where
    pub params : other.params ≡ r.params
    pub run : (values : List ℤ) (cells : Cells) (n m : ℕ) → m ≤ n →
        Refines place (r.run values cells n) (other.run values cells m)

  -- a statement in one scope, and another in another
  abbrev pub RefinesStmt : Scope → Scope → StmtTree → StmtTree → Type 0
  RefinesStmt s other x y = (cells : Cells) (n m : ℕ) → m ≤ n →
      Refines place (run_stmt s x cells n) (run_stmt other y cells m)

  abbrev pub RefinesStmts : Scope → Scope → StmtTrees → StmtTrees → Type 0
  RefinesStmts s other xs ys = (cells : Cells) (n m : ℕ) → m ≤ n →
      Refines place (run_stmts s xs cells n) (run_stmts other ys cells m)

-- an execution ends at no lower count of steps
abbrev pub EndsFrom : ℕ → Outcome → Type 0
EndsFrom steps (done a) = steps ≤ a.steps
EndsFrom steps (stuck at cells) = ⊤

-- a procedure does the same from a lower count of steps, at no higher one, and never counts back
pub record IsSteadyRoutine (r : Routine) : Type 0 where
  pub fewer : RefinesRoutine in_place r r
  pub onward : (values : List ℤ) (cells : Cells) (n : ℕ) → EndsFrom n (r.run values cells n)

abbrev pub AreSteadyRoutines : List Routine → Type 0
AreSteadyRoutines routines = (k : ℕ) → IsSteadyRoutine (routine_at routines k)

-- what a body sees is steady
pub record IsSteadyScope (s : Scope) : Type 0 where
  pub functions : AreSteady s.functions
  pub routines : AreSteadyRoutines s.routines
