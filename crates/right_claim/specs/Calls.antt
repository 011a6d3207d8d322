-- Which interface procedures a tick calls on the instances of the systems, and how often it stores
-- a value.
use Rattle.std.specs.Prelude.{◌≡◌, ℕ, ◌≤◌, Bool, List, [], ◌∷◌, ◌++◌, map, filter, Contains, IsPermutation, MatchBool, Option, Some, None, ℤ}
use Rattle.std.specs.List.{AllByRecursion}
use Rattle.diagram_activity.specs.declared.TrigMem.{TrigMem}
use Rattle.diagram_blocks.specs.Meaning.{has_value}
use Rattle.diagram_meaning.specs.declared.table.Row.{Row}
use Rattle.diagram_meaning.specs.Rows.{row_at, rows_of, around}
use Rattle.diagram_meaning.specs.Diagram.{Diagram}
use Rattle.diagram_meaning.specs.Run.{active_in}
use Rattle.modules_profile.specs.Systems.{systems_inside}
use Rattle.c_syntax.specs.Tree.{ProgramTree}
use Rattle.c_semantics.specs.Machine.{LoggedCall, StoredField}
use Rattle.emit_shape.specs.Names.{value_name, update_name}
use Rattle.emit_shape.specs.Faces.{out_places}
use Rattle.emit_shape.specs.Programs.{procedure_place}
use Rattle.right_relation.specs.Instances.{calls_at, stores_at}
use Rattle.right_claim.specs.Paths.{place_in, path_to, path_inside}

-- each output procedure once, in some order, and after them the update once
pub record IsWholeTick (p : ProgramTree) (s : Option ℕ) (calls : List ℕ) : Type 0 where
  pub outs : List ℕ
  pub each_once : IsPermutation (out_places p s) outs
  pub then_update : calls ≡ outs ++ procedure_place p (update_name s) ∷ []

-- the calls on a system's instance: a whole tick of them where the system around it is active, else
-- none
abbrev pub HasCallsOf : ProgramTree → Option ℕ → Bool → List ℕ → Type 0
HasCallsOf p s is_active calls = MatchBool is_active (IsWholeTick p s calls) (calls ≡ [])

-- each value field of a system's own rows is stored at most once, in its instance at this path
abbrev pub StoresOnce : ProgramTree → List Row → (path : List ℕ) → Option ℕ → List StoredField →
    Type 0
StoresOnce p rows path s stores =
    AllByRecursion (λ b. stores_at path (place_in p s (value_name b)) stores ≤ 1)
    (filter (λ b. has_value (row_at rows b).kind) (rows_of rows s))

-- A tick of the run of the system s, with the trace's row x, the values v and what the triggers
-- remember before it, where the instance of s is at this path: on each instance inside s the calls
-- of the tick, no calls on any other instance but that of s, and each value of s and of the systems
-- inside is stored once at most.
pub record CallsInside (p : ProgramTree) (d : Diagram) (path : List ℕ) (s : Option ℕ)
    (x v : List ℤ) (g : List TrigMem) (log : List LoggedCall)
    (stores : List StoredField) : Type 0 where
  pub each : AllByRecursion (λ e. HasCallsOf p (Some e) (active_in d s x v g (around d.rows s e))
      (calls_at (path ++ path_inside p d.rows s e) log)) (systems_inside d.rows s)
  pub stored_once : StoresOnce p d.rows path s stores
  pub inner_stored_once : AllByRecursion
      (λ e. StoresOnce p d.rows (path ++ path_inside p d.rows s e) (Some e) stores)
      (systems_inside d.rows s)
  pub no_other : AllByRecursion
      (λ c. Contains (path ∷ map (λ e. path ++ path_inside p d.rows s e) (systems_inside d.rows s))
      c.path) log

-- the same for a tick of the whole program, in which `top` always has its calls
pub record CallsInTick (p : ProgramTree) (d : Diagram) (x v : List ℤ) (g : List TrigMem)
    (log : List LoggedCall) (stores : List StoredField) : Type 0 where
  pub inside : CallsInside p d (path_to p d.rows None) None x v g log stores
  pub top : IsWholeTick p None (calls_at (path_to p d.rows None) log)
