-- The run of a diagram tick by tick, and the ticks that can be none other.
use Rattle.std.specs.Prelude.{◌≡◌, ℕ, suc, ◌+◌, ◌<◌, ◌≤◌, List, [], ◌∷◌, ◌++◌, map, take, length, slice_index_or, None, ℤ}
use Rattle.std.proofs.Common.{refl, sym, ◌∙◌, ap, subst, arith, add-one}
use Rattle.std.proofs.lemmas.List.{get_or-map, map_push, take_all, take_more}
use Rattle.diagram_activity.specs.declared.TrigMem.{TrigMem}
use Rattle.diagram_activity.specs.declared.TrigMem.TheVariants.{NotYet}
use Rattle.diagram_meaning.specs.Diagram.{Diagram}
use Rattle.diagram_meaning.specs.Needs.{needs_of, HasNoLoop}
use Rattle.diagram_meaning.specs.Run.{start_of, initial_memory, row_memory, row_trigger, values_by, memories_by, triggers_by, IsTick, RunFrom, IsRun}
use Rattle.diagram_meaning.specs.Laws.{Run, IsRunOver}
use Rattle.diagram_meaning.proofs.lemmas.Tick.{solution-only}
use Rattle.diagram_meaning.proofs.lemmas.Ticks.{before_tick, tick-from}
use Rattle.diagram_meaning.proofs.lemmas.OneRun.{whole_run, whole-only, one_run}

-- the run over a trace, where there is no loop
pub run_of : Diagram → List (List ℤ) → Run
run_of d xs = whole_run d None xs

pub run_of-is : (d : Diagram) (xs : List (List ℤ)) → HasNoLoop (needs_of d) → IsRunOver d None xs (run_of d xs)
unfolding run_of
run_of-is d xs none =
    let law = one_run d None xs none in
    subst (IsRunOver d None xs) (whole-only d None none xs law.run.values law.run.memories law.run.triggers law.is_run) law.is_run

pub run_of-only : (d : Diagram) (xs : List (List ℤ)) → HasNoLoop (needs_of d) → (other : Run) →
    IsRunOver d None xs other → other ≡ run_of d xs
unfolding run_of
run_of-only d xs none other r = whole-only d None none xs other.values other.memories other.triggers r

-- before the first tick
abbrev pub first_values : Diagram → List ℤ
first_values d = values_by d None (start_of d)

pub first-memories : (d : Diagram) (xs vs : List (List ℤ)) (ms : List (List (List ℤ))) (gs : List (List TrigMem)) →
    IsRun d None xs vs ms gs → slice_index_or ms 0 [] ≡ memories_by d None (initial_memory d)
first-memories d xs vs [] gs r = absurd r
first-memories d xs vs (m ∷ ms) [] r = absurd r
first-memories d xs vs (m ∷ ms) (g ∷ gs) r = r.0

pub first-triggers : (d : Diagram) (xs vs : List (List ℤ)) (ms : List (List (List ℤ))) (gs : List (List TrigMem)) →
    IsRun d None xs vs ms gs → slice_index_or gs 0 [] ≡ triggers_by d None (λ e. NotYet)
first-triggers d xs vs [] gs r = absurd r
first-triggers d xs vs (m ∷ ms) [] r = absurd r
first-triggers d xs vs (m ∷ ms) (g ∷ gs) r = r.1

-- the equations of tick t of a run
pub tick-of : (d : Diagram) (xs vs : List (List ℤ)) (ms : List (List (List ℤ))) (gs : List (List TrigMem)) (t : ℕ) →
    IsRun d None xs vs ms gs → t < length xs →
    IsTick d None t (slice_index_or xs t []) (before_tick (first_values d) vs t) (slice_index_or ms t [])
    (slice_index_or gs t []) (slice_index_or vs t []) (slice_index_or ms (suc t) []) (slice_index_or gs (suc t) [])
tick-of d xs vs [] gs t r h = absurd r
tick-of d xs vs (m ∷ ms) [] t r h = absurd r
tick-of d xs vs (m ∷ ms) (g ∷ gs) t r h =
    let e : t + 0 ≡ t = omega arith in
    subst (λ n. IsTick d None n (slice_index_or xs t []) (before_tick (first_values d) vs t)
    (slice_index_or (m ∷ ms) t []) (slice_index_or (g ∷ gs) t []) (slice_index_or vs t []) (slice_index_or ms t [])
    (slice_index_or gs t [])) e
    (tick-from d None 0 t (first_values d) m g xs vs ms gs r.2 h)

-- a run has values for each tick
values-from : (d : Diagram) (k : ℕ) (before : List ℤ) (m : List (List ℤ)) (g : List TrigMem) (xs vs : List (List ℤ))
    (ms : List (List (List ℤ))) (gs : List (List TrigMem)) → RunFrom d None k before m g xs vs ms gs →
    length vs ≡ length xs
values-from d k before m g [] [] [] [] r = refl
values-from d k before m g (x ∷ xs) (v ∷ vs) (m' ∷ ms) (g' ∷ gs) r = ap suc (values-from d (suc k) v m' g' xs vs ms gs r.1)
values-from d k before m g _ _ _ _ r = absurd r

pub values-each : (d : Diagram) (xs vs : List (List ℤ)) (ms : List (List (List ℤ))) (gs : List (List TrigMem)) →
    IsRun d None xs vs ms gs → length vs ≡ length xs
values-each d xs vs [] gs r = absurd r
values-each d xs vs (m ∷ ms) [] r = absurd r
values-each d xs vs (m ∷ ms) (g ∷ gs) r = values-from d 0 (first_values d) m g xs vs ms gs r.2

-- What a tick comes to, from the same givens, is the same.
module _ (d : Diagram) (none : HasNoLoop (needs_of d)) (t : ℕ) (x before : List ℤ) (m : List (List ℤ))
    (g : List TrigMem) (v : List ℤ) (m' : List (List ℤ)) (w : List ℤ) (n : List (List ℤ)) (g' h : List TrigMem)
    (tick : IsTick d None t x before m g v m' g') (other : IsTick d None t x before m g w n h) where
  pub same-values : v ≡ w
  same-values = solution-only d None t x before m g none v tick.values ∙ sym (solution-only d None t x before m g none w other.values)

  pub same-memories : m' ≡ n
  same-memories = tick.memories ∙ ap (λ z. memories_by d None (row_memory d None t x m g z)) same-values ∙ sym other.memories

  pub same-triggers : g' ≡ h
  same-triggers = tick.triggers ∙ ap (λ z. triggers_by d None (row_trigger d None x g z)) same-values ∙ sym other.triggers

-- A tick from what the run over xs has before it is the run's.
module _ (d : Diagram) (none : HasNoLoop (needs_of d)) (xs : List (List ℤ)) (t : ℕ) (below : t < length xs)
    (x before : List ℤ) (m : List (List ℤ)) (g : List TrigMem) (v : List ℤ) (m' : List (List ℤ)) (g' : List TrigMem)
    (x_is : slice_index_or xs t [] ≡ x) (before_is : before ≡ before_tick (first_values d) (run_of d xs).values t)
    (m_is : m ≡ slice_index_or (run_of d xs).memories t []) (g_is : g ≡ slice_index_or (run_of d xs).triggers t [])
    (tick : IsTick d None t x before m g v m' g') where
  own : IsTick d None t (slice_index_or xs t []) (before_tick (first_values d) (run_of d xs).values t)
      (slice_index_or (run_of d xs).memories t []) (slice_index_or (run_of d xs).triggers t []) v m' g'
  own =
      subst (λ y. IsTick d None t y (before_tick (first_values d) (run_of d xs).values t)
      (slice_index_or (run_of d xs).memories t []) (slice_index_or (run_of d xs).triggers t []) v m' g') (sym x_is)
      (subst (λ y. IsTick d None t x y (slice_index_or (run_of d xs).memories t [])
      (slice_index_or (run_of d xs).triggers t []) v m' g') before_is
      (subst (λ y. IsTick d None t x before y (slice_index_or (run_of d xs).triggers t []) v m' g') m_is
      (subst (λ y. IsTick d None t x before m y v m' g') g_is tick)))

  given : IsTick d None t (slice_index_or xs t []) (before_tick (first_values d) (run_of d xs).values t)
      (slice_index_or (run_of d xs).memories t []) (slice_index_or (run_of d xs).triggers t [])
      (slice_index_or (run_of d xs).values t []) (slice_index_or (run_of d xs).memories (suc t) [])
      (slice_index_or (run_of d xs).triggers (suc t) [])
  given = tick-of d xs (run_of d xs).values (run_of d xs).memories (run_of d xs).triggers t (run_of-is d xs none) below

  pub run-values : v ≡ slice_index_or (run_of d xs).values t []
  run-values = same-values d none t _ _ _ _ v m' _ _ g' _ own given

  pub run-memories : m' ≡ slice_index_or (run_of d xs).memories (t + 1) []
  run-memories = rw add-one (same-memories d none t _ _ _ _ v m' _ _ g' _ own given)

  pub run-triggers : g' ≡ slice_index_or (run_of d xs).triggers (t + 1) []
  run-triggers = rw add-one (same-triggers d none t _ _ _ _ v m' _ _ g' _ own given)

-- ---- Vectors of vectors

-- the row of a trace at a tick
pub row-of : {V : Type 0} (items : V → List ℤ) (inputs : List V) (t : ℕ) (input : V) (row : List ℤ) →
    input ≡ slice_index_or inputs t input → row ≡ items input → t < length inputs → slice_index_or (map items inputs) t [] ≡ row
row-of items inputs t input row at is below = get_or-map items inputs t input [] below ∙ ap items (sym at) ∙ sym is

-- the values of one more tick
pub values-more : {V : Type 0} (items : V → List ℤ) (before after : List V) (t : ℕ) (copy : V) (v : List ℤ) (vs : List (List ℤ)) →
    map items before ≡ take t vs → after ≡ before ++ copy ∷ [] → items copy ≡ v → v ≡ slice_index_or vs t [] →
    t < length vs → map items after ≡ take (t + 1) vs
values-more items before after t copy v vs so_far pushed copied is below =
    ap (map items) pushed ∙ map_push items before copy ∙ (λ i. so_far i ++ (copied ∙ is) i ∷ []) ∙ sym (take_more vs t [] below)

-- the values of all ticks
pub values-all : {V : Type 0} (items : V → List ℤ) (all : List V) (t : ℕ) (vs : List (List ℤ)) →
    map items all ≡ take t vs → length vs ≤ t → vs ≡ map items all
values-all items all t vs so_far most = sym (take_all t vs most) ∙ sym so_far
