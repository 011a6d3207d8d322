-- Refinements compose, and a program that does the same refines.
use Rattle.std.specs.Prelude.{ℕ, List, [], ◌∷◌, map}
use Rattle.std.proofs.Common.{refl, sym, ap, subst, ◌∙◌, arith}
use Rattle.c_semantics.specs.Machine.{call_from_outside}
use Rattle.c_semantics.specs.Rows.{TickRow, Rows, c_rows, start_run}
use Rattle.c_refinement.specs.Refinement.{placed_call, Refines, RefinesTick, RefinesTicks, RefinesRows, in_place}
use Rattle.c_refinement.specs.Laws.{RefinementsCompose, SameRunsRefine}
use Rattle.c_refinement.proofs.lemmas.Outcomes.{same-calls, placed-twice, outcome-itself, outcomes-compose}

-- ---- A program and itself

ticks-themselves : (rows : List TickRow) → RefinesTicks in_place rows rows
ticks-themselves [] = tt
ticks-themselves (row ∷ rows) =
    (record { outputs = refl; steps = omega arith; log = sym (same-calls row.log); stores = refl }, ticks-themselves rows)

rows-themselves : (rows : Rows) → RefinesRows in_place rows rows
rows-themselves rows = record { ticks = ticks-themselves rows.ticks; not_stuck = λ none. none; count = λ none. refl; cells = λ none. refl }

pub same_runs_refine : SameRunsRefine
same_runs_refine p q calls start rows = record {
  calls = λ k kept path values cells. subst (Refines in_place (call_from_outside p k path values cells)) (sym (calls k path values cells))
      (outcome-itself (call_from_outside p k path values cells));
  start = subst (Refines in_place (start_run p)) (sym start) (outcome-itself (start_run p));
  rows = λ trace. subst (RefinesRows in_place (c_rows p trace)) (sym (rows trace)) (rows-themselves (c_rows p trace));
}

-- ---- Three programs

module _ (place further : ℕ → ℕ) where
  abbrev both : ℕ → ℕ
  both k = further (place k)

  tick-composed : (a b c : TickRow) → RefinesTick place a b → RefinesTick further b c → RefinesTick both a c
  tick-composed a b c h g = record {
    outputs = g.outputs ∙ h.outputs;
    steps = omega (arith, h.steps, g.steps);
    log = g.log ∙ ap (map (placed_call further)) h.log ∙ placed-twice place further a.log;
    stores = g.stores ∙ h.stores;
  }

  ticks-composed : (xs ys zs : List TickRow) → RefinesTicks place xs ys → RefinesTicks further ys zs → RefinesTicks both xs zs
  ticks-composed [] ys zs h g = tt
  ticks-composed (x ∷ xs) [] zs h g = absurd h
  ticks-composed (x ∷ xs) (y ∷ ys) [] h g = absurd g
  ticks-composed (x ∷ xs) (y ∷ ys) (z ∷ zs) h g = (tick-composed x y z h.0 g.0, ticks-composed xs ys zs h.1 g.1)

  rows-composed : (a b c : Rows) → RefinesRows place a b → RefinesRows further b c → RefinesRows both a c
  rows-composed a b c h g = record {
    ticks = ticks-composed a.ticks b.ticks c.ticks h.ticks g.ticks;
    not_stuck = λ none. g.not_stuck (h.not_stuck none);
    count = λ none. g.count (h.not_stuck none) ∙ h.count none;
    cells = λ none. g.cells (h.not_stuck none) ∙ h.cells none;
  }

pub refinements_compose : RefinementsCompose
refinements_compose place further keeps holds p q r first second keeps_on = record {
  calls = λ k kept path values cells. outcomes-compose place further (call_from_outside p k path values cells)
      (call_from_outside q (place k) path values cells) (call_from_outside r (further (place k)) path values cells)
      (first.calls k kept path values cells) (second.calls (place k) (keeps_on k kept) path values cells);
  start = outcomes-compose place further (start_run p) (start_run q) (start_run r) first.start second.start;
  rows = λ trace. rows-composed place further (c_rows p trace) (c_rows q trace) (c_rows r trace) (first.rows trace) (second.rows trace);
}
