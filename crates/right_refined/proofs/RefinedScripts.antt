-- What is said of right code over scripts holds of a program that refines it.
use Rattle.std.specs.Prelude.{ℕ, suc, ◌%◌, Bool, List, [], ◌∷◌, ◌++◌, map, slice_index_or, Contains, Option, ℤ, pos, refl}
use Rattle.std.specs.List.{AllByRecursion}
use Rattle.std.proofs.Common.{sym, subst}
use Rattle.diagram_meaning.specs.Diagram.{Diagram}
use Rattle.diagram_meaning.specs.Needs.{AreTrueNeeds}
use Rattle.diagram_meaning.specs.Laws.{Run}
use Rattle.modules_profile.specs.Functions.{functions_for}
use Rattle.modules_profile.specs.Systems.{systems}
use Rattle.c_syntax.specs.Tree.{ProcedureTree, ProgramTree}
use Rattle.c_semantics.specs.Cells.{Cells, cells_at}
use Rattle.c_semantics.specs.Machine.{LoggedCall, StoredField, After}
use Rattle.c_semantics.specs.Rows.{start_run}
use Rattle.emit_shape.specs.Names.{out_name, update_name}
use Rattle.right_claim.specs.Paths.{path_to}
use Rattle.right_claim.specs.Scripts.{Call, out_with, update_with, TickSoFar, nothing_yet, tick_after, IsLawfulFrom}
use Rattle.right_claim.specs.Calls.{CallsInside}
use Rattle.right_claim.specs.Held.{HoldsRun}
use Rattle.right_claim.specs.Driving.{call_in_tick, HoldsOutputs, DrivenFrom, AnswersScripts}
use Rattle.right_claim.specs.Right.{AnswersAnyOrder}
use Rattle.right_claim.proofs.lemmas.AlikePrograms.{run-held-alike}
use Rattle.c_refinement.specs.Refinement.{placed_call, RefinesBy}
use Rattle.right_refined.specs.Refined.{with_procedures}
use Rattle.right_refined.proofs.KeptPlaces.{KeepsAll}
use Rattle.right_refined.proofs.RefinedCalls.{done-refined, both-placed, named-refined, inside-refined}

module _ (p : ProgramTree) (procedures : List ProcedureTree) (keeps : ℕ → Bool) (place : ℕ → ℕ) (d : Diagram)
    (refines : RefinesBy place keeps p (with_procedures p procedures))
    (kept : KeepsAll place keeps p (with_procedures p procedures) d) where
  abbrev q : ProgramTree
  q = with_procedures p procedures

  module _ (hyper : ℕ) (path : List ℕ) (s : Option ℕ) (has : Contains (systems d.rows) s) (needs : List ℕ)
      (are : AreTrueNeeds d s needs) (xs : List (List ℤ)) (run : Run) where
    -- with the calls so far at their places
    driven-refined : (script : List Call) (tick : TickSoFar) (t : ℕ) (cells : Cells) (called : List ℕ) (log : List LoggedCall)
        (stores : List StoredField) → IsLawfulFrom d s (functions_for needs) tick script →
        DrivenFrom p d hyper path s (functions_for needs) xs run t cells called log stores script →
        DrivenFrom q d hyper path s (functions_for needs) xs run t cells called (map (placed_call place) log) stores script
    driven-refined [] tick t cells called log stores lawful h = tt
    driven-refined (out_with j values ∷ script) tick t cells called log stores lawful h =
        done-refined place (call_in_tick p hyper path t (out_name s j) values cells)
        (call_in_tick q hyper path t (out_name s j) values cells)
        (λ (after : After). AllByRecursion (HoldsOutputs p d hyper path s (functions_for needs) xs run t after.cells) (j ∷ called)
        × DrivenFrom p d hyper path s (functions_for needs) xs run t after.cells (j ∷ called) (log ++ after.log)
        (stores ++ after.stores) script)
        (λ (after : After). AllByRecursion (HoldsOutputs q d hyper path s (functions_for needs) xs run t after.cells) (j ∷ called)
        × DrivenFrom q d hyper path s (functions_for needs) xs run t after.cells (j ∷ called)
        (map (placed_call place) log ++ after.log) (stores ++ after.stores) script)
        (named-refined p procedures keeps place d refines kept (out_name s j)
        ((kept.system s has).out needs are j lawful.0.in_turn.0 lawful.0.in_turn.1) path (pos (t % hyper) ∷ values) cells)
        (λ a b same both. (
          subst (λ c. AllByRecursion (HoldsOutputs q d hyper path s (functions_for needs) xs run t c) (j ∷ called)) (sym same.cells)
              both.0,
          subst (λ c. DrivenFrom q d hyper path s (functions_for needs) xs run t c (j ∷ called)
              (map (placed_call place) log ++ b.log) (stores ++ b.stores) script) (sym same.cells)
              (subst (λ more. DrivenFrom q d hyper path s (functions_for needs) xs run t a.cells (j ∷ called) more
              (stores ++ b.stores) script) (both-placed place log a.log b.log same.log)
              (subst (λ more. DrivenFrom q d hyper path s (functions_for needs) xs run t a.cells (j ∷ called)
              (map (placed_call place) (log ++ a.log)) (stores ++ more) script) (sym same.stores)
              (driven-refined script (tick_after d s (functions_for needs) tick (out_with j values)) t a.cells (j ∷ called)
              (log ++ a.log) (stores ++ a.stores) lawful.1 both.1))),
        )) h
    driven-refined (update_with values ∷ script) tick t cells called log stores lawful h =
        done-refined place (call_in_tick p hyper path t (update_name s) values cells)
        (call_in_tick q hyper path t (update_name s) values cells)
        (λ (after : After). CallsInside p d path s (slice_index_or xs t []) (slice_index_or run.values t [])
        (slice_index_or run.triggers t []) (log ++ after.log) (stores ++ after.stores)
        × HoldsRun p d s run t (cells_at path after.cells)
        × DrivenFrom p d hyper path s (functions_for needs) xs run (suc t) after.cells [] [] [] script)
        (λ (after : After). CallsInside q d path s (slice_index_or xs t []) (slice_index_or run.values t [])
        (slice_index_or run.triggers t []) (map (placed_call place) log ++ after.log) (stores ++ after.stores)
        × HoldsRun q d s run t (cells_at path after.cells)
        × DrivenFrom q d hyper path s (functions_for needs) xs run (suc t) after.cells [] [] [] script)
        (named-refined p procedures keeps place d refines kept (update_name s) (kept.system s has).update path
        (pos (t % hyper) ∷ values) cells)
        (λ a b same all. (
          subst (λ more. CallsInside q d path s (slice_index_or xs t []) (slice_index_or run.values t [])
              (slice_index_or run.triggers t []) more (stores ++ b.stores)) (both-placed place log a.log b.log same.log)
              (subst (λ more. CallsInside q d path s (slice_index_or xs t []) (slice_index_or run.values t [])
              (slice_index_or run.triggers t []) (map (placed_call place) (log ++ a.log)) (stores ++ more)) (sym same.stores)
              (inside-refined p procedures keeps place d refines kept path s (slice_index_or xs t []) (slice_index_or run.values t [])
              (slice_index_or run.triggers t []) (log ++ a.log) (stores ++ a.stores) all.0)),
          subst (λ c. HoldsRun q d s run t (cells_at path c)) (sym same.cells)
              (run-held-alike p q refl d s run t (cells_at path a.cells) all.1),
          subst (λ c. DrivenFrom q d hyper path s (functions_for needs) xs run (suc t) c [] [] [] script) (sym same.cells)
              (driven-refined script (tick_after d s (functions_for needs) tick (update_with values)) (suc t) a.cells [] [] []
              lawful.1 all.2),
        )) h

  pub scripts-refined : (hyper : ℕ) (path : List ℕ) (s : Option ℕ) → Contains (systems d.rows) s → (cells : Cells) →
      AnswersScripts p d hyper path s cells → AnswersScripts q d hyper path s cells
  scripts-refined hyper path s has cells h needs script xs run are lawful trace fits is_run =
      driven-refined hyper path s has needs are xs run script nothing_yet 0 cells [] [] [] lawful
      (h needs script xs run are lawful trace fits is_run)

  pub answers-refined : (hyper : ℕ) (s : Option ℕ) → Contains (systems d.rows) s → AnswersAnyOrder p d hyper s →
      AnswersAnyOrder q d hyper s
  answers-refined hyper s has h =
      done-refined place (start_run p) (start_run q) (λ started. AnswersScripts p d hyper (path_to p d.rows s) s started.cells)
      (λ started. AnswersScripts q d hyper (path_to q d.rows s) s started.cells) refines.start
      (λ a b same one. subst (AnswersScripts q d hyper (path_to q d.rows s) s) (sym same.cells)
      (scripts-refined hyper (path_to p d.rows s) s has a.cells one)) h
