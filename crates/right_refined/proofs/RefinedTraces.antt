-- What is said of right code over traces holds of a program that refines it.
use Rattle.std.specs.Prelude.{◌≡◌, ℕ, suc, ◌≤◌, Bool, List, [], ◌∷◌, map, length, slice_index_or, None, ℤ, refl}
use Rattle.std.specs.List.{AllByRecursion}
use Rattle.std.proofs.Common.{sym, ap, subst, ◌∙◌, arith}
use Rattle.diagram_meaning.specs.Diagram.{Diagram}
use Rattle.diagram_meaning.specs.Laws.{Run}
use Rattle.c_syntax.specs.Tree.{ProcedureTree, ProgramTree}
use Rattle.c_syntax.specs.RootFields.{output_fields, root_fields}
use Rattle.c_semantics.specs.Cells.{Cells, number_at, cells_at}
use Rattle.c_semantics.specs.Machine.{After}
use Rattle.c_semantics.specs.Rows.{TickRow, c_rows, start_run, step_run}
use Rattle.emit_shape.specs.Names.{root_step_name}
use Rattle.right_relation.specs.Instances.{OnDone}
use Rattle.right_relation.specs.Budgets.{step_bound}
use Rattle.right_claim.specs.Paths.{path_to}
use Rattle.right_claim.specs.Calls.{CallsInTick}
use Rattle.right_claim.specs.Held.{HoldsRun}
use Rattle.right_claim.specs.Driving.{IsRightTick, TicksFrom, TakesTraces}
use Rattle.right_claim.specs.Right.{GivesOutputs, StaysInBound}
use Rattle.right_claim.proofs.lemmas.AlikePrograms.{run-held-alike}
use Rattle.c_refinement.specs.Refinement.{placed_call, RefinesAfter, RefinesTicks, RefinesBy}
use Rattle.right_refined.specs.Refined.{with_procedures}
use Rattle.right_refined.proofs.KeptPlaces.{KeepsAll}
use Rattle.right_refined.proofs.RefinedCalls.{done-refined, named-refined, tick-refined}

-- ---- Rows

module _ (place : ℕ → ℕ) where
  outputs-refined : (xs ys : List TickRow) → RefinesTicks place xs ys → length ys ≡ length xs →
      map (λ (row : TickRow). row.outputs) ys ≡ map (λ (row : TickRow). row.outputs) xs
  outputs-refined [] [] refines same = refl
  outputs-refined [] (y ∷ ys) refines same = absurd (omega (arith, same))
  outputs-refined (x ∷ xs) [] refines same = absurd refines
  outputs-refined (x ∷ xs) (y ∷ ys) refines same =
      (λ i. refines.0.outputs i ∷ outputs-refined xs ys refines.1 (omega (arith, same)) i)

  steps-refined : (bound : ℕ) (xs ys : List TickRow) → RefinesTicks place xs ys → length ys ≡ length xs →
      AllByRecursion (λ (row : TickRow). row.steps ≤ bound) xs → AllByRecursion (λ (row : TickRow). row.steps ≤ bound) ys
  steps-refined bound [] [] refines same all = tt
  steps-refined bound [] (y ∷ ys) refines same all = absurd (omega (arith, same))
  steps-refined bound (x ∷ xs) [] refines same all = absurd refines
  steps-refined bound (x ∷ xs) (y ∷ ys) refines same all =
      let fewer = refines.0.steps in let few = all.0 in
      (omega (arith, fewer, few), steps-refined bound xs ys refines.1 (omega (arith, same)) all.1)

module _ (p : ProgramTree) (procedures : List ProcedureTree) (keeps : ℕ → Bool) (place : ℕ → ℕ) (d : Diagram)
    (refines : RefinesBy place keeps p (with_procedures p procedures))
    (kept : KeepsAll place keeps p (with_procedures p procedures) d) where
  abbrev q : ProgramTree
  q = with_procedures p procedures

  pub outputs-given : (xs : List (List ℤ)) → StaysInBound p d xs → GivesOutputs p d xs → GivesOutputs q d xs
  outputs-given xs bound h =
      let rows = refines.rows xs in record {
        one_run = h.one_run;
        outputs = outputs-refined place (c_rows p xs).ticks (c_rows q xs).ticks rows.ticks (rows.count bound.not_stuck) ∙ h.outputs;
      }

  pub bounded : (xs : List (List ℤ)) → StaysInBound p d xs → StaysInBound q d xs
  bounded xs h =
      let rows = refines.rows xs in record {
        not_stuck = rows.not_stuck h.not_stuck;
        steps = steps-refined place (step_bound d.rows) (c_rows p xs).ticks (c_rows q xs).ticks rows.ticks (rows.count h.not_stuck)
            h.steps;
      }

  -- ---- Ticks

  right-refined : (run : Run) (t : ℕ) (x : List ℤ) (a b : After) → RefinesAfter place a b → IsRightTick p d run t x a →
      IsRightTick q d run t x b
  right-refined run t x a b same h = record {
    outputs = ap (λ cells. map (number_at cells) (output_fields (root_fields p))) same.cells ∙ h.outputs;
    in_bound = let few = h.in_bound in let fewer = same.steps in omega (arith, few, fewer);
    calls =
        subst (λ log. CallsInTick q d x (slice_index_or run.values t []) (slice_index_or run.triggers t []) log b.stores)
        (sym same.log)
        (subst (CallsInTick q d x (slice_index_or run.values t []) (slice_index_or run.triggers t []) (map (placed_call place) a.log))
        (sym same.stores)
        (tick-refined p procedures keeps place d refines kept x (slice_index_or run.values t []) (slice_index_or run.triggers t [])
        a.log a.stores h.calls));
    holds = subst (λ cells. HoldsRun q d None run t (cells_at (path_to q d.rows None) cells)) (sym same.cells)
        (run-held-alike p q refl d None run t (cells_at (path_to p d.rows None) a.cells) h.holds);
  }

  ticks-refined : (run : Run) (t : ℕ) (rest : List (List ℤ)) (cells : Cells) → TicksFrom p d run t rest cells →
      TicksFrom q d run t rest cells
  ticks-refined run t [] cells h = tt
  ticks-refined run t (x ∷ rest) cells h =
      done-refined place (step_run p x cells) (step_run q x cells)
      (λ (after : After). IsRightTick p d run t x after × TicksFrom p d run (suc t) rest after.cells)
      (λ (after : After). IsRightTick q d run t x after × TicksFrom q d run (suc t) rest after.cells)
      (named-refined p procedures keeps place d refines kept root_step_name kept.root_step [] x cells)
      (λ a b same both. (
        right-refined run t x a b same both.0,
        subst (TicksFrom q d run (suc t) rest) (sym same.cells) (ticks-refined run (suc t) rest a.cells both.1),
      )) h

  pub traces-refined : (cells : Cells) → TakesTraces p d cells → TakesTraces q d cells
  traces-refined cells h xs run trace is_run = ticks-refined run 0 xs cells (h xs run trace is_run)

  pub traces-taken : OnDone (start_run p) (λ started. TakesTraces p d started.cells) →
      OnDone (start_run q) (λ started. TakesTraces q d started.cells)
  traces-taken h =
      done-refined place (start_run p) (start_run q) (λ started. TakesTraces p d started.cells)
      (λ started. TakesTraces q d started.cells) refines.start
      (λ a b same takes. subst (TakesTraces q d) (sym same.cells) (traces-refined a.cells takes)) h
