-- A diagram without a loop has exactly one run over each trace.
use Rattle.std.specs.Prelude.{◌≡◌, ℕ, suc, List, [], ◌∷◌, Option, ℤ}
use Rattle.std.proofs.Common.{refl, ◌∙◌, ap}
use Rattle.diagram_activity.specs.declared.TrigMem.{TrigMem}
use Rattle.diagram_activity.specs.declared.TrigMem.TheVariants.{NotYet}
use Rattle.diagram_meaning.specs.Diagram.{Diagram}
use Rattle.diagram_meaning.specs.Needs.{needs_of, HasNoLoop}
use Rattle.diagram_meaning.specs.Run.{start_of, initial_memory, row_memory, row_trigger, values_by, memories_by, triggers_by, IsTick, RunFrom, IsRun}
use Rattle.diagram_meaning.specs.Laws.{Run, LoopFreeHasOneRun}
use Rattle.diagram_meaning.proofs.lemmas.Tick.{solution, solution-solves, solution-only}

abbrev pub none_left : Run
none_left = record { values = []; memories = []; triggers = [] }

abbrev pub with_tick : List ℤ → List (List ℤ) → List TrigMem → Run → Run
with_tick v m g rest = record { values = v ∷ rest.values; memories = m ∷ rest.memories; triggers = g ∷ rest.triggers }

module _ (d : Diagram) (s : Option ℕ) where
  abbrev pub memories_after : (t : ℕ) (x : List ℤ) (m : List (List ℤ)) (g : List TrigMem) (v : List ℤ) → List (List ℤ)
  memories_after t x m g v = memories_by d s (row_memory d s t x m g v)

  abbrev pub triggers_after : (x : List ℤ) (g : List TrigMem) (v : List ℤ) → List TrigMem
  triggers_after x g v = triggers_by d s (row_trigger d s x g v)

  -- the run from tick t on
  abbrev pub solved : (t : ℕ) (before : List ℤ) (m : List (List ℤ)) (g : List TrigMem) (xs : List (List ℤ)) → Run
  solved t before m g [] = none_left
  solved t before m g (x ∷ xs) =
      let v = solution d s t x before m g in
      with_tick v (memories_after t x m g v) (triggers_after x g v) (solved (suc t) v (memories_after t x m g v) (triggers_after x g v) xs)

  abbrev pub whole_run : List (List ℤ) → Run
  whole_run xs =
      let m = memories_by d s (initial_memory d) in
      let g = triggers_by d s (λ e. NotYet) in
      let rest = solved 0 (values_by d s (start_of d)) m g xs in
      record { values = rest.values; memories = m ∷ rest.memories; triggers = g ∷ rest.triggers }

  module _ (none : HasNoLoop (needs_of d)) where
    solved-runs : (t : ℕ) (before : List ℤ) (m : List (List ℤ)) (g : List TrigMem) (xs : List (List ℤ)) →
        RunFrom d s t before m g xs (solved t before m g xs).values (solved t before m g xs).memories (solved t before m g xs).triggers
    solved-runs t before m g [] = tt
    solved-runs t before m g (x ∷ xs) =
        let v = solution d s t x before m g in (
          record { values = solution-solves d s t x before m g none; memories = refl; triggers = refl },
          solved-runs (suc t) v (memories_after t x m g v) (triggers_after x g v) xs,
        )

    -- after the same first tick
    one-more : (t : ℕ) (before : List ℤ) (m : List (List ℤ)) (g : List TrigMem) (x : List ℤ) (xs : List (List ℤ))
        (v : List ℤ) (m' : List (List ℤ)) (g' : List TrigMem) (vs : List (List ℤ)) (ms : List (List (List ℤ)))
        (gs : List (List TrigMem)) →
        IsTick d s t x before m g v m' g' →
        (let rest : Run = record { values = vs; memories = ms; triggers = gs } in rest ≡ solved (suc t) v m' g' xs) →
        (let whole : Run = record { values = v ∷ vs; memories = m' ∷ ms; triggers = g' ∷ gs } in whole ≡ solved t before m g (x ∷ xs))
    one-more t before m g x xs v m' g' vs ms gs tick e =
        let ev = solution-only d s t x before m g none v tick.values in
        let em : m' ≡ memories_after t x m g (solution d s t x before m g) = tick.memories ∙ ap (memories_after t x m g) ev in
        let eg : g' ≡ triggers_after x g (solution d s t x before m g) = tick.triggers ∙ ap (triggers_after x g) ev in
        ap (with_tick v m' g') e ∙ λ i. with_tick (ev i) (em i) (eg i) (solved (suc t) (ev i) (em i) (eg i) xs)

    pub solved-only : (t : ℕ) (before : List ℤ) (m : List (List ℤ)) (g : List TrigMem) (xs vs : List (List ℤ))
        (ms : List (List (List ℤ))) (gs : List (List TrigMem)) →
        RunFrom d s t before m g xs vs ms gs → (let run : Run = record { values = vs; memories = ms; triggers = gs } in
        run ≡ solved t before m g xs)
    solved-only t before m g [] [] [] [] r = refl
    solved-only t before m g (x ∷ xs) (v ∷ vs) (m' ∷ ms) (g' ∷ gs) r =
        one-more t before m g x xs v m' g' vs ms gs r.0 (solved-only (suc t) v m' g' xs vs ms gs r.1)
    solved-only t before m g _ _ _ _ r = absurd r

    pub whole-only : (xs vs : List (List ℤ)) (ms : List (List (List ℤ))) (gs : List (List TrigMem)) →
        IsRun d s xs vs ms gs → (let run : Run = record { values = vs; memories = ms; triggers = gs } in
        run ≡ whole_run xs)
    whole-only xs vs [] gs r = absurd r
    whole-only xs vs (m ∷ ms) [] r = absurd r
    whole-only xs vs (m ∷ ms) (g ∷ gs) r =
        ap (λ (rest : Run). record { values = rest.values; memories = m ∷ rest.memories; triggers = g ∷ rest.triggers })
        (solved-only 0 (values_by d s (start_of d)) m g xs vs ms gs r.2)
        ∙ λ i. record {
          values = (solved 0 (values_by d s (start_of d)) (r.0 i) (r.1 i) xs).values;
          memories = r.0 i ∷ (solved 0 (values_by d s (start_of d)) (r.0 i) (r.1 i) xs).memories;
          triggers =
              r.1 i ∷ (solved 0 (values_by d s (start_of d)) (r.0 i) (r.1 i) xs).triggers;
        }

pub one_run : LoopFreeHasOneRun
one_run d s xs none = record {
  run = whole_run d s xs;
  is_run = (
    refl,
    refl,
    solved-runs d s none 0 (values_by d s (start_of d)) (memories_by d s (initial_memory d))
        (triggers_by d s (λ e. NotYet)) xs,
  );
  only = λ other r. whole-only d s none xs other.values other.memories other.triggers r;
}
