-- A program that is restarted from any fields gives the rows of the run from zeros, and answers each system's calls.
use Rattle.std.specs.Prelude.{◌≡◌, ℕ, suc, ◌+◌, ◌≤◌, List, [], ◌∷◌, map, slice_index_or, None, ℤ}
use Rattle.std.specs.List.{AllByRecursion}
use Rattle.std.proofs.Common.{refl, sym, ap, ap₂, ◌∙◌, arith}
use Rattle.diagram_activity.specs.declared.TrigMem.{TrigMem}
use Rattle.diagram_meaning.specs.Diagram.{Diagram}
use Rattle.diagram_meaning.specs.Run.{IsRun, RunFrom, outs}
use Rattle.diagram_meaning.specs.Laws.{Run, LoopFreeHasOneRun}
use Rattle.diagram_meaning.specs.Traces.{IsTrace}
use Rattle.c_syntax.specs.Tree.{ProgramTree}
use Rattle.c_syntax.specs.RootFields.{root_struct}
use Rattle.c_semantics.specs.Cells.{Cells}
use Rattle.c_semantics.specs.Machine.{After, Outcome, done, stuck}
use Rattle.c_semantics.specs.Rows.{Rows, zero_root, start_run, step_run, rows_after, rows_from, rows_of_start, c_rows}
use Rattle.right_relation.specs.Instances.{OnDone}
use Rattle.right_relation.specs.Budgets.{step_bound}
use Rattle.right_claim.specs.Paths.{path_to}
use Rattle.right_claim.specs.Driving.{IsRightTick, TicksFrom, TakesTraces, AnswersScripts}
use Rattle.right_claim.specs.Anew.{AreRestarted}
use Rattle.right_linking.specs.Parts.{Parts, program_of, diagram, all_systems}
use Rattle.right_linking.specs.Places.{ZerosHaveForms}
use Rattle.right_linking.specs.Whole.{AssembledRestarts, RunsFollow}
use Rattle.right_linking.proofs.lemmas.Executions.{on-done}

-- ---- Rows from ticks

module _ (p : ProgramTree) (d : Diagram) where
  -- the rows of a run with these values
  record RowsAre (rows : Rows) (vs : List (List ℤ)) : Type 0 where
    pub outputs : map (λ row. row.outputs) rows.ticks ≡ map (outs d None) vs
    pub not_stuck : rows.stuck_place ≡ None
    pub steps : AllByRecursion (λ row. row.steps ≤ step_bound d.rows) rows.ticks

  module _ (run : Run) where
    -- one tick and the rest
    first_row : (t : ℕ) (x v : List ℤ) (xs vs : List (List ℤ)) (o : Outcome) → v ≡ slice_index_or run.values t [] →
        OnDone o (λ after. IsRightTick p d run t x after × TicksFrom p d run (suc t) xs after.cells) →
        ((after : After) → TicksFrom p d run (suc t) xs after.cells → RowsAre (rows_from p xs after.cells) vs) →
        RowsAre (rows_after p o (rows_from p xs)) (v ∷ vs)
    first_row t x v xs vs (stuck at cells) is ticks go = absurd ticks
    first_row t x v xs vs (done after) is ticks go =
        let rest = go after ticks.1 in
        record {
          outputs = ap₂ ◌∷◌ (ticks.0.outputs ∙ ap (outs d None) (sym is)) rest.outputs;
          not_stuck = rest.not_stuck;
          steps = (ticks.0.in_bound, rest.steps);
        }

    rows_are : (t : ℕ) (before : List ℤ) (m : List (List ℤ)) (g : List TrigMem) (xs vs : List (List ℤ))
        (ms : List (List (List ℤ))) (gs : List (List TrigMem)) → RunFrom d None t before m g xs vs ms gs →
        ((k : ℕ) → slice_index_or vs k [] ≡ slice_index_or run.values (t + k) []) → (cells : Cells) →
        TicksFrom p d run t xs cells → RowsAre (rows_from p xs cells) vs
    rows_are t before m g [] [] [] [] is_run same cells ticks = record { outputs = refl; not_stuck = refl; steps = tt }
    rows_are t before m g (x ∷ xs) (v ∷ vs) (n ∷ ms) (h ∷ gs) is_run same cells ticks =
        let here : t + 0 ≡ t = omega arith in
        first_row t x v xs vs (step_run p x cells) (same 0 ∙ ap (λ k. slice_index_or run.values k []) here) ticks
        (λ after more. rows_are (suc t) v n h xs vs ms gs is_run.1
        (λ k. let next : t + suc k ≡ suc t + k = omega arith in same (suc k) ∙ ap (λ j. slice_index_or run.values j []) next)
        after.cells more)
    rows_are t before m g _ _ _ _ is_run same cells ticks = absurd is_run

  of_run : (run : Run) (xs vs : List (List ℤ)) (ms : List (List (List ℤ))) (gs : List (List TrigMem)) → IsRun d None xs vs ms gs →
      vs ≡ run.values → (cells : Cells) → TicksFrom p d run 0 xs cells → RowsAre (rows_from p xs cells) vs
  of_run run xs vs [] gs is_run same cells ticks = absurd is_run
  of_run run xs vs (m ∷ ms) [] is_run same cells ticks = absurd is_run
  of_run run xs vs (m ∷ ms) (g ∷ gs) is_run same cells ticks =
      rows_are run 0 _ m g xs vs ms gs is_run.2
      (λ k. let first : k ≡ 0 + k = omega arith in
      ap (λ us. slice_index_or us k []) same ∙ ap (λ j. slice_index_or run.values j []) first) cells ticks

  -- after the start
  started_rows : (xs vs : List (List ℤ)) (o : Outcome) → OnDone o (λ started. TakesTraces p d started.cells) →
      ((cells : Cells) → TakesTraces p d cells → RowsAre (rows_from p xs cells) vs) → RowsAre (rows_of_start p o xs) vs
  started_rows xs vs (done started) takes go = go started.cells takes
  started_rows xs vs (stuck at cells) takes go = absurd takes

-- what is done with all members is done with each
each_done : {A : Type 0} (o : Outcome) (P : A → After → Type 0) (xs : List A) →
    OnDone o (λ after. AllByRecursion (λ x. P x after) xs) → AllByRecursion (λ x. OnDone o (P x)) xs
each_done (done after) P xs all = all
each_done (stuck at cells) P xs all = absurd all

-- ---- The program that is put together

module _ (one_run : LoopFreeHasOneRun) (a : Parts) (zeros : ZerosHaveForms a) (restarts : AssembledRestarts a) where
  abbrev p : ProgramTree
  p = program_of a

  abbrev d : Diagram
  d = diagram a

  started : (P : After → Type 0) → ((after : After) → AreRestarted p d a.hyper (zero_root p) after.cells → P after) → OnDone (start_run p) P
  started P follows = on-done (start_run p) _ P (λ after is. follows after is.1) (restarts (zero_root p) (zeros (root_struct p)))

  takes : OnDone (start_run p) (λ after. TakesTraces p d after.cells)
  takes = started (λ after. TakesTraces p d after.cells) (λ after is. is.traces)

  rows : (xs : List (List ℤ)) → IsTrace d None xs → RowsAre p d (c_rows p xs) (one_run d None xs a.can.no_loop).run.values
  rows xs trace =
      let one = one_run d None xs a.can.no_loop in
      started_rows p d xs one.run.values (start_run p) takes
      (λ cells answers. of_run p d one.run xs one.run.values one.run.memories one.run.triggers one.is_run refl cells
      (answers xs one.run trace one.is_run))

  scripts : OnDone (start_run p)
      (λ after. AllByRecursion (λ s. AnswersScripts p d a.hyper (path_to p d.rows s) s after.cells) (all_systems a))
  scripts = started (λ after. AllByRecursion (λ s. AnswersScripts p d a.hyper (path_to p d.rows s) s after.cells) (all_systems a))
      (λ after is. is.scripts)

pub runs_follow : LoopFreeHasOneRun → RunsFollow
runs_follow one_run a zeros restarts = (
  record {
    outputs = λ xs trace. record {
      one_run = one_run (diagram a) None xs a.can.no_loop;
      outputs = (rows one_run a zeros restarts xs trace).outputs;
    };
    bounded = λ xs trace. let is = rows one_run a zeros restarts xs trace in record { not_stuck = is.not_stuck; steps = is.steps };
    ticks = takes one_run a zeros restarts;
  },
  each_done (start_run (program_of a))
      (λ s after. AnswersScripts (program_of a) (diagram a) a.hyper (path_to (program_of a) (diagram a).rows s) s after.cells)
      (all_systems a) (scripts one_run a zeros restarts),
)
