-- From the single ticks of the root to its answer to a trace, where its instance of `top` lives through the run.
use Rattle.std.specs.Prelude.{◌≡◌, ℕ, suc, ◌+◌, ◌<◌, List, [], ◌∷◌, length, slice_index_or, None, ℤ}
use Rattle.std.proofs.Common.{refl, sym, ap, subst, ◌∙◌, arith}
use Rattle.diagram_meaning.specs.Diagram.{Diagram}
use Rattle.diagram_meaning.specs.Laws.{Run}
use Rattle.c_syntax.specs.Tree.{ProgramTree}
use Rattle.c_semantics.specs.Cells.{Cells, cells_at}
use Rattle.c_semantics.specs.Machine.{After}
use Rattle.c_semantics.specs.Rows.{step_run}
use Rattle.right_relation.specs.Instances.{none_called, OnDone}
use Rattle.right_claim.specs.Held.{HoldsRun}
use Rattle.right_claim.specs.Driving.{IsRightTick, TicksFrom}
use Rattle.right_linking.specs.Parts.{program_of, diagram}
use Rattle.right_linking.specs.Root.{IsRootAt, TakesTick}
use Rattle.right_linking.specs.Whole.{TracesFollow}
use Rattle.right_linking.proofs.lemmas.RootPaths.{path-to-top}
use Rattle.right_linking.proofs.lemmas.Executions.{on-done}

-- where each tick of a trace is right, and goes from I at its number to I at the next
module _ (p : ProgramTree) (d : Diagram) (run : Run) (xs : List (List ℤ)) (I : ℕ → Cells → Type 0) where
  abbrev GoesOn : ℕ → List ℤ → After → Type 0
  GoesOn t x after = IsRightTick p d run t x after × (suc t < length xs → I (suc t) after.cells)

  module _ (tick : (t : ℕ) (cells : Cells) → t < length xs → I t cells →
      OnDone (step_run p (slice_index_or xs t []) cells) (GoesOn t (slice_index_or xs t []))) where
    pub ticks-from : (rest : List (List ℤ)) (t : ℕ) (cells : Cells) → t + length rest ≡ length xs →
        ((k : ℕ) → slice_index_or rest k [] ≡ slice_index_or xs (t + k) []) → (t < length xs → I t cells) →
        TicksFrom p d run t rest cells
    ticks-from [] t cells count same at = tt
    ticks-from (x ∷ rest) t cells count same at =
        let first : t + 0 ≡ t = omega arith in
        let here : x ≡ slice_index_or xs t [] = same 0 ∙ ap (λ k. slice_index_or xs k []) first in
        let below : t < length xs = omega (arith, count) in
        on-done (step_run p x cells) (GoesOn t x) (λ after. IsRightTick p d run t x after × TicksFrom p d run (suc t) rest after.cells)
        (λ after took. (
          took.0,
          ticks-from rest (suc t) after.cells (omega (arith, count))
              (λ k. let next : t + suc k ≡ suc t + k = omega arith in same (suc k) ∙ ap (λ n. slice_index_or xs n []) next) took.1,
        ))
        (subst (λ row. OnDone (step_run p row cells) (GoesOn t row)) (sym here) (tick t cells below (at below)))

pub traces_follow : TracesFollow
traces_follow a v renewed lives takes_ticks before cells formed stands xs run trace is_run =
    let living = lives None xs run trace is_run None (0, omega arith, refl) refl before formed in
    ticks-from (program_of a) (diagram a) run xs (λ t fields. IsRootAt (program_of a) a.hyper t ((living.at t).standing none_called) fields)
    (λ t fields below at.
    on-done (step_run (program_of a) (slice_index_or xs t []) fields) (TakesTick a xs run t (living.at t).after) _
    (λ after took. (
      record {
        outputs = took.outputs;
        in_bound = took.in_bound;
        calls = took.calls;
        holds = subst (HoldsRun (program_of a) (diagram a) None run t)
            (sym (ap (λ path. cells_at path after.cells) (path-to-top (program_of a) (diagram a).rows) ∙ took.stands.inner))
            (living.holds t below);
      },
      λ more. subst (λ (top : Cells). IsRootAt (program_of a) a.hyper (suc t) top after.cells) (living.follows t more) took.stands,
    ))
    (takes_ticks xs run before trace is_run living t fields below at))
    xs 0 cells (omega arith) (λ k. let same : k ≡ 0 + k = omega arith in ap (λ n. slice_index_or xs n []) same)
    (λ some. subst (λ (top : Cells). IsRootAt (program_of a) a.hyper 0 top cells) (sym (living.first some)) stands)
