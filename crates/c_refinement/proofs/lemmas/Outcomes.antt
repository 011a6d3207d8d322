-- Outcomes that refine others, along all that a run is made of.
use Rattle.std.specs.Prelude.{◌≡◌, ℕ, ◌+◌, ◌≤◌, Bool, true, false, nat_lt, if◌then◌else◌, List, [], ◌∷◌, ◌++◌, map, ℤ}
use Rattle.std.proofs.Common.{refl, sym, ap, subst, ◌∙◌, arith, true≢false}
use Rattle.std.proofs.lemmas.List.{map-append}
use Rattle.c_syntax.specs.declared.code.CType.{CType}
use Rattle.c_syntax.specs.declared.code.Target.{Target}
use Rattle.c_syntax.specs.declared.code.Target.TheVariants.{Own, Child}
use Rattle.c_syntax.specs.declared.fault.Why.TheVariants.{Range, Steps}
use Rattle.c_semantics.specs.Cells.{Cells, number, items, object, set_cell, set_item, fields_at, items_at}
use Rattle.c_semantics.specs.Values.{Answer, gives, sticks, is_in_type, stuck_at, step_limit}
use Rattle.c_semantics.specs.Machine.{LoggedCall, StoredField, Outcome, done, stuck, behind, then_run, on_answer, begin_step, call_under, store_under, in_child, at_path, on_target, store, store_at}
use Rattle.c_refinement.specs.Evaluations.{RefinesAnswer, GivesFrom}
use Rattle.c_refinement.specs.Refinement.{placed_call, Refines, in_place}
use Rattle.c_refinement.specs.Routines.{EndsFrom}
use Rattle.c_refinement.proofs.lemmas.Answers.{step-left}

-- ---- Calls that are placed

-- calls in a child
under-placed : (place : ℕ → ℕ) (f : ℕ) (log : List LoggedCall) →
    map (call_under f) (map (placed_call place) log) ≡ map (placed_call place) (map (call_under f) log)
under-placed place f [] = refl
under-placed place f (c ∷ log) = ap (λ rest. placed_call place (call_under f c) ∷ rest) (under-placed place f log)

-- where each procedure is in place, calls are as they are
pub same-calls : (log : List LoggedCall) → map (placed_call in_place) log ≡ log
same-calls [] = refl
same-calls (c ∷ log) = ap (λ rest. c ∷ rest) (same-calls log)

-- calls that are placed twice
pub placed-twice : (place further : ℕ → ℕ) (log : List LoggedCall) →
    map (placed_call further) (map (placed_call place) log) ≡ map (placed_call (λ k. further (place k))) log
placed-twice place further [] = refl
placed-twice place further (c ∷ log) = ap (λ rest. placed_call (λ k. further (place k)) c ∷ rest) (placed-twice place further log)

pub outcome-itself : (o : Outcome) → Refines in_place o o
outcome-itself (done a) = record { cells = refl; steps = omega arith; log = sym (same-calls a.log); stores = refl }
outcome-itself (stuck at cells) = tt

pub outcomes-compose : (place further : ℕ → ℕ) (o p q : Outcome) → Refines place o p → Refines further p q →
    Refines (λ k. further (place k)) o q
outcomes-compose place further (done a) (done b) (done c) h g = record {
  cells = g.cells ∙ h.cells;
  steps = omega (arith, h.steps, g.steps);
  log = g.log ∙ ap (map (placed_call further)) h.log ∙ placed-twice place further a.log;
  stores = g.stores ∙ h.stores;
}
outcomes-compose place further (done a) (done b) (stuck at cells) h g = absurd g
outcomes-compose place further (done a) (stuck at cells) q h g = absurd h
outcomes-compose place further (stuck at cells) p q h g = tt

-- ---- What a run is made of

module _ (place : ℕ → ℕ) where
  pub behind-refines : (l m : List LoggedCall) (s t : List StoredField) (o p : Outcome) → m ≡ map (placed_call place) l → t ≡ s →
      Refines place o p → Refines place (behind l s o) (behind m t p)
  behind-refines l m s t (done a) (done b) logs stores h = record {
    cells = h.cells;
    steps = h.steps;
    log = (λ i. logs i ++ h.log i) ∙ sym (map-append (placed_call place) l a.log);
    stores = λ i. stores i ++ h.stores i;
  }
  behind-refines l m s t (done a) (stuck at cells) logs stores h = absurd h
  behind-refines l m s t (stuck at cells) p logs stores h = tt

  pub then_run-refines : (o p : Outcome) (go further : Cells → ℕ → Outcome) → Refines place o p →
      ((cells : Cells) (n m : ℕ) → m ≤ n → Refines place (go cells n) (further cells m)) →
      Refines place (then_run o go) (then_run p further)
  then_run-refines (done a) (done b) go further h after =
      behind-refines a.log b.log a.stores b.stores (go a.cells a.steps) (further b.cells b.steps) h.log h.stores
      (subst (λ c. Refines place (go a.cells a.steps) (further c b.steps)) (sym h.cells) (after a.cells a.steps b.steps h.steps))
  then_run-refines (done a) (stuck at cells) go further h after = absurd h
  then_run-refines (stuck at cells) p go further h after = tt

  pub on_answer-refines : {A : Type 0} (a b : Answer A) (cells others : Cells) (go further : A → ℕ → Outcome) → RefinesAnswer a b →
      ((r : A) (n m : ℕ) → m ≤ n → Refines place (go r n) (further r m)) →
      Refines place (on_answer a cells go) (on_answer b others further)
  on_answer-refines (gives r n) (gives q m) cells others go further h after =
      subst (λ x. Refines place (go r n) (further x m)) (sym h.0) (after r n m h.1)
  on_answer-refines (gives r n) (sticks at) cells others go further h after = absurd h
  on_answer-refines (sticks at) b cells others go further h after = tt

  pub begin_step-refines : (line later : ℕ) (cells others : Cells) (n m : ℕ) (go further : ℕ → Outcome) → m ≤ n →
      ((i j : ℕ) → j ≤ i → Refines place (go i) (further j)) →
      Refines place (begin_step line cells n go) (begin_step later others m further)
  begin_step-refines line later cells others n m go further fewer after =
      by (nat_lt n step_limit) (nat_lt m step_limit) (step-left step_limit n m fewer)
    where
      by : (b c : Bool) → (b ≡ true → c ≡ true) →
          Refines place (if b then go (n + 1) else stuck (stuck_at line Steps) cells)
          (if c then further (m + 1) else stuck (stuck_at later Steps) others)
      by true true left = after (n + 1) (m + 1) (omega (arith, fewer))
      by true false left = absurd (true≢false (sym (left refl)))
      by false c left = tt

  -- a step that the other doesn't take
  pub begin_step-dropped : (line : ℕ) (cells : Cells) (n : ℕ) (go : ℕ → Outcome) (other : Outcome) →
      Refines place (go (n + 1)) other → Refines place (begin_step line cells n go) other
  begin_step-dropped line cells n go other h = by (nat_lt n step_limit)
    where
      by : (b : Bool) → Refines place (if b then go (n + 1) else stuck (stuck_at line Steps) cells) other
      by true = h
      by false = tt

  pub in_child-refines : (f : ℕ) (cells : Cells) (o p : Outcome) → Refines place o p →
      Refines place (in_child f cells o) (in_child f cells p)
  in_child-refines f cells (done a) (done b) h = record {
    cells = ap (λ c. set_cell cells f (object c)) h.cells;
    steps = h.steps;
    log = ap (map (call_under f)) h.log ∙ under-placed place f a.log;
    stores = ap (map (store_under f)) h.stores;
  }
  in_child-refines f cells (done a) (stuck at inner) h = absurd h
  in_child-refines f cells (stuck at inner) p h = tt

  pub on_target-refines : (target : Target) (go further : Cells → ℕ → Outcome) →
      ((cells : Cells) (n m : ℕ) → m ≤ n → Refines place (go cells n) (further cells m)) → (cells : Cells) (n m : ℕ) → m ≤ n →
      Refines place (on_target target go cells n) (on_target target further cells m)
  on_target-refines Own go further h cells n m fewer = h cells n m fewer
  on_target-refines (Child f) go further h cells n m fewer =
      in_child-refines f cells (go (fields_at cells f) n) (further (fields_at cells f) m) (h (fields_at cells f) n m fewer)

  pub at_path-refines : (path : List ℕ) (go further : Cells → Outcome) → ((cells : Cells) → Refines place (go cells) (further cells)) →
      (cells : Cells) → Refines place (at_path path go cells) (at_path path further cells)
  at_path-refines [] go further h cells = h cells
  at_path-refines (f ∷ path) go further h cells =
      in_child-refines f cells (at_path path go (fields_at cells f)) (at_path path further (fields_at cells f))
      (at_path-refines path go further h (fields_at cells f))

  -- the same store, or none
  stored-refines : (line later field : ℕ) (left cells : Cells) (n m : ℕ) → m ≤ n → (b : Bool) →
      Refines place (if b then done (record { cells = left; steps = n; log = []; stores = record { path = []; field = field } ∷ [] })
      else stuck (stuck_at line Range) cells)
      (if b then done (record { cells = left; steps = m; log = []; stores = record { path = []; field = field } ∷ [] })
      else stuck (stuck_at later Range) cells)
  stored-refines line later field left cells n m fewer true = record { cells = refl; steps = fewer; log = refl; stores = refl }
  stored-refines line later field left cells n m fewer false = tt

  pub store-refines : (line later : ℕ) (t : CType) (f : ℕ) (v : ℤ) (cells : Cells) (n m : ℕ) → m ≤ n →
      Refines place (store line t f v cells n) (store later t f v cells m)
  store-refines line later t f v cells n m fewer =
      stored-refines line later f (set_cell cells f (number v)) cells n m fewer (is_in_type t v)

  pub store_at-refines : (line later : ℕ) (t : CType) (f i : ℕ) (v : ℤ) (cells : Cells) (n m : ℕ) → m ≤ n →
      Refines place (store_at line t f i v cells n) (store_at later t f i v cells m)
  store_at-refines line later t f i v cells n m fewer =
      stored-refines line later f (set_cell cells f (items (set_item (items_at cells f) i v))) cells n m fewer (is_in_type t v)

-- ---- Runs never count back

pub ends-later : (o : Outcome) (n m : ℕ) → n ≤ m → EndsFrom m o → EndsFrom n o
ends-later (done a) n m more h = omega (arith, more, h)
ends-later (stuck at cells) n m more h = tt

pub behind-onward : (l : List LoggedCall) (s : List StoredField) (o : Outcome) (n : ℕ) → EndsFrom n o → EndsFrom n (behind l s o)
behind-onward l s (done a) n h = h
behind-onward l s (stuck at cells) n h = tt

pub then_run-onward : (o : Outcome) (go : Cells → ℕ → Outcome) (n : ℕ) → EndsFrom n o →
    ((cells : Cells) (m : ℕ) → EndsFrom m (go cells m)) → EndsFrom n (then_run o go)
then_run-onward (done a) go n h after =
    behind-onward a.log a.stores (go a.cells a.steps) n (ends-later (go a.cells a.steps) n a.steps h (after a.cells a.steps))
then_run-onward (stuck at cells) go n h after = tt

pub on_answer-onward : {A : Type 0} (a : Answer A) (cells : Cells) (go : A → ℕ → Outcome) (n : ℕ) → GivesFrom n a →
    ((r : A) (m : ℕ) → EndsFrom m (go r m)) → EndsFrom n (on_answer a cells go)
on_answer-onward (gives r m) cells go n h after = ends-later (go r m) n m h (after r m)
on_answer-onward (sticks at) cells go n h after = tt

pub begin_step-onward : (line : ℕ) (cells : Cells) (n : ℕ) (go : ℕ → Outcome) → ((m : ℕ) → EndsFrom m (go m)) →
    EndsFrom n (begin_step line cells n go)
begin_step-onward line cells n go after = by (nat_lt n step_limit)
  where
    by : (b : Bool) → EndsFrom n (if b then go (n + 1) else stuck (stuck_at line Steps) cells)
    by true = ends-later (go (n + 1)) n (n + 1) (omega arith) (after (n + 1))
    by false = tt

pub in_child-onward : (f : ℕ) (cells : Cells) (o : Outcome) (n : ℕ) → EndsFrom n o → EndsFrom n (in_child f cells o)
in_child-onward f cells (done a) n h = h
in_child-onward f cells (stuck at inner) n h = tt

pub on_target-onward : (target : Target) (go : Cells → ℕ → Outcome) → ((cells : Cells) (n : ℕ) → EndsFrom n (go cells n)) →
    (cells : Cells) (n : ℕ) → EndsFrom n (on_target target go cells n)
on_target-onward Own go h cells n = h cells n
on_target-onward (Child f) go h cells n = in_child-onward f cells (go (fields_at cells f) n) n (h (fields_at cells f) n)

stored-onward : (line field : ℕ) (left cells : Cells) (n : ℕ) (b : Bool) →
    EndsFrom n (if b then done (record { cells = left; steps = n; log = []; stores = record { path = []; field = field } ∷ [] })
    else stuck (stuck_at line Range) cells)
stored-onward line field left cells n true = omega arith
stored-onward line field left cells n false = tt

pub store-onward : (line : ℕ) (t : CType) (f : ℕ) (v : ℤ) (cells : Cells) (n : ℕ) → EndsFrom n (store line t f v cells n)
store-onward line t f v cells n = stored-onward line f (set_cell cells f (number v)) cells n (is_in_type t v)

pub store_at-onward : (line : ℕ) (t : CType) (f i : ℕ) (v : ℤ) (cells : Cells) (n : ℕ) → EndsFrom n (store_at line t f i v cells n)
store_at-onward line t f i v cells n =
    stored-onward line f (set_cell cells f (items (set_item (items_at cells f) i v))) cells n (is_in_type t v)
