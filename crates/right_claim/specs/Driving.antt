-- A program over a trace, and an instance of one of its systems over a script of calls, from any
-- fields: what each tick and each call leaves.
use Rattle.std.specs.Prelude.{◌≡◌, ℕ, suc, ◌%◌, ◌≤◌, List, [], ◌∷◌, ◌++◌, slice_index_or, Option, None, ℤ, pos, ⊤}
use Rattle.std.specs.List.{AllByRecursion}
use Rattle.diagram_meaning.specs.Diagram.{Diagram}
use Rattle.diagram_meaning.specs.Needs.{AreTrueNeeds}
use Rattle.diagram_meaning.specs.Rows.{outports_of}
use Rattle.diagram_meaning.specs.Run.{value_at, outs}
use Rattle.diagram_meaning.specs.Laws.{Run, IsRunOver}
use Rattle.diagram_meaning.specs.Traces.{IsTrace}
use Rattle.modules_profile.specs.declared.Function.{Function}
use Rattle.modules_profile.specs.Functions.{functions_for}
use Rattle.modules_profile.specs.Headers.{numbered_function, given_by_function}
use Rattle.c_syntax.specs.Tree.{ProgramTree}
use Rattle.c_semantics.specs.Cells.{Cells, cells_at}
use Rattle.c_semantics.specs.Machine.{LoggedCall, StoredField, After, Outcome, call_from_outside}
use Rattle.c_semantics.specs.Rows.{step_run, tick_row}
use Rattle.emit_shape.specs.Names.{value_name, out_name, update_name}
use Rattle.emit_shape.specs.Programs.{procedure_place}
use Rattle.right_relation.specs.Instances.{OnDone}
use Rattle.right_relation.specs.Budgets.{step_bound}
use Rattle.right_claim.specs.Paths.{path_to, number_in}
use Rattle.right_claim.specs.Scripts.{Call, out_with, update_with, IsLawfulScript, Fits}
use Rattle.right_claim.specs.Calls.{CallsInside, CallsInTick}
use Rattle.right_claim.specs.Held.{HoldsRun}

-- ---- Ticks of the whole program

-- what the step of tick t leaves over a run of the root, with this row of the trace: the outputs,
-- within the bound, by the calls and stores of the tick, and each field holds what the run has
pub record IsRightTick (p : ProgramTree) (d : Diagram) (run : Run) (t : ℕ) (x : List ℤ)
    (after : After) : Type 0 where
  pub outputs : (tick_row p after).outputs ≡ outs d None (slice_index_or run.values t [])
  pub in_bound : after.steps ≤ step_bound d.rows
  pub calls : CallsInTick p d x (slice_index_or run.values t []) (slice_index_or run.triggers t [])
      after.log after.stores
  pub holds : HoldsRun p d None run t (cells_at (path_to p d.rows None) after.cells)

-- the ticks from t on, over the rest of a trace, from these fields of the root: none is stuck, and
-- each is right
abbrev pub TicksFrom : ProgramTree → Diagram → Run → ℕ → (rest : List (List ℤ)) → Cells → Type 0
TicksFrom p d run t [] cells = ⊤
TicksFrom p d run t (x ∷ rest) cells =
    OnDone (step_run p x cells)
    (λ after. IsRightTick p d run t x after × TicksFrom p d run (suc t) rest after.cells)

-- from these fields of the root each trace is answered by the run over it
abbrev pub TakesTraces : ProgramTree → Diagram → Cells → Type 0
TakesTraces p d cells = (xs : List (List ℤ)) (run : Run) → IsTrace d None xs →
    IsRunOver d None xs run → TicksFrom p d run 0 xs cells

-- ---- Calls of one system from outside

-- a call from outside of a procedure on the instance at a path, in tick t
abbrev pub call_in_tick : ProgramTree → ℕ → (path : List ℕ) → ℕ → List ℕ → List ℤ → Cells → Outcome
call_in_tick p hyper path t name values cells =
    call_from_outside p (procedure_place p name) path (pos (t % hyper) ∷ values) cells

-- The rest of a script from tick t on, over a run of the system s, on its instance at a path, from
-- these fields, with the functions called, the calls and the stores of the tick so far: no call is
-- stuck; after each `out` the outputs of all functions called in the tick have the run's values in
-- their fields; and after each `update` the tick had its calls and stores, and each field holds
-- what the run has.
module _ (p : ProgramTree) (d : Diagram) (hyper : ℕ) (path : List ℕ) (s : Option ℕ)
    (functions : List Function) (xs : List (List ℤ)) (run : Run) where
  -- the outputs of function j hold the values of tick t
  abbrev pub HoldsOutputs : ℕ → Cells → ℕ → Type 0
  HoldsOutputs t cells j =
      AllByRecursion
      (λ o. number_in p s (cells_at path cells) (value_name o)
      ≡ value_at (slice_index_or run.values t []) o)
      (given_by_function (numbered_function functions j) (outports_of d.rows s))

  abbrev pub DrivenFrom : ℕ → Cells → (called : List ℕ) → List LoggedCall → List StoredField →
      List Call → Type 0
  DrivenFrom t cells called log stores [] = ⊤
  DrivenFrom t cells called log stores (out_with j values ∷ script) =
      OnDone (call_in_tick p hyper path t (out_name s j) values cells)
      (λ after. AllByRecursion (HoldsOutputs t after.cells) (j ∷ called)
      × DrivenFrom t after.cells (j ∷ called) (log ++ after.log) (stores ++ after.stores) script)
  DrivenFrom t cells called log stores (update_with values ∷ script) =
      OnDone (call_in_tick p hyper path t (update_name s) values cells)
      (λ after.
      CallsInside p d path s (slice_index_or xs t []) (slice_index_or run.values t [])
      (slice_index_or run.triggers t []) (log ++ after.log) (stores ++ after.stores)
      × HoldsRun p d s run t (cells_at path after.cells)
      × DrivenFrom (suc t) after.cells [] [] [] script)

-- from these fields every lawful script of the system s is answered, on its instance at a path, by
-- its run over any trace that fits the script
abbrev pub AnswersScripts : ProgramTree → Diagram → ℕ → (path : List ℕ) → Option ℕ → Cells → Type 0
AnswersScripts p d hyper path s cells =
    (needs : List ℕ) (script : List Call) (xs : List (List ℤ)) (run : Run) →
    AreTrueNeeds d s needs →
    IsLawfulScript d s (functions_for needs) script → IsTrace d s xs →
    Fits d s (functions_for needs) xs script →
    IsRunOver d s xs run →
    DrivenFrom p d hyper path s (functions_for needs) xs run 0 cells [] [] [] script
