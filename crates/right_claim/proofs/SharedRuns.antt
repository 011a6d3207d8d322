-- The program of a root and its shared child over a trace: it gives the outputs of the run and stays within the bound, each tick
-- has its calls, stores and values, and a script in another order is answered.
use Rattle.std.specs.Prelude.{refl, List, [], ◌∷◌, map, None, ℤ, pos}
use Rattle.std.specs.Fmt.{digits}
use Rattle.std.proofs.Common.{sym, ap, lit<, lit≤, true≢false}
use Rattle.std.proofs.lemmas.List.Sorted.{IsPermutation-refl}
use Rattle.diagram_meaning.specs.Run.{outs}
use Rattle.diagram_meaning.specs.Laws.{Run, HasOneRun}
use Rattle.modules_profile.specs.Functions.{functions_for}
use Rattle.modules_profile.specs.LocalSamples.{shared_child}
use Rattle.c_semantics.specs.Cells.{Cells, number, object, no_cells, more_cells}
use Rattle.c_semantics.specs.Rows.{start_run}
use Rattle.right_relation.specs.Instances.{OnDone}
use Rattle.right_claim.specs.Scripts.{Call, out_with, update_with}
use Rattle.right_claim.specs.Held.{HoldsRun}
use Rattle.right_claim.specs.Driving.{TicksFrom, DrivenFrom}
use Rattle.right_claim.specs.Right.{GivesOutputs, StaysInBound}
use Rattle.right_claim.specs.SharedSamples.{shared_program, trace}
use Rattle.right_claim.proofs.RefusedPrograms.{shared_run, is_shared_run}

-- of the one run
gives : HasOneRun shared_child None trace → GivesOutputs shared_program shared_child trace
unfolding digits
gives one =
    record {
      one_run = one;
      outputs = ap (λ (run : Run). map (outs shared_child None) run.values) (one.only shared_run is_shared_run);
    }

bounded : StaysInBound shared_program shared_child trace
unfolding digits
bounded = record { not_stuck = refl; steps = (lit≤ tt, (lit≤ tt, tt)) }

-- ---- What fields hold

-- those of `top` after a tick with these inputs and their sum
abbrev top_after : (first second sum : ℤ) → Cells
top_after first second sum =
    let child = more_cells (number first) (more_cells (number first) (more_cells (number (pos 0)) no_cells)) in
    more_cells (number first)
    (more_cells (number second)
    (more_cells (number sum)
    (more_cells (number first)
    (more_cells (number sum)
    (more_cells (object child)
    (more_cells (number (pos 0)) (more_cells (number (pos 0)) (more_cells (number (pos 0)) no_cells))))))))

holds_first : HoldsRun shared_program shared_child None shared_run 0 (top_after (pos 1) (pos 10) (pos 11))
unfolding digits
holds_first = record {
  here = record {
    values = (refl, (refl, (refl, (refl, (refl, tt)))));
    memories = tt;
    rings = tt;
    trigger = λ h. absurd (true≢false (sym h));
    counters = (refl, (refl, (refl, tt)));
  };
  inside = (
    record {
      values = (refl, (refl, tt));
      memories = tt;
      rings = tt;
      trigger = λ h. absurd (true≢false (sym h));
      counters = (refl, tt);
    },
    tt,
  );
}

holds_second : HoldsRun shared_program shared_child None shared_run 1 (top_after (pos 2) (pos 20) (pos 22))
unfolding digits
holds_second = record {
  here = record {
    values = (refl, (refl, (refl, (refl, (refl, tt)))));
    memories = tt;
    rings = tt;
    trigger = λ h. absurd (true≢false (sym h));
    counters = (refl, (refl, (refl, tt)));
  };
  inside = (
    record {
      values = (refl, (refl, tt));
      memories = tt;
      rings = tt;
      trigger = λ h. absurd (true≢false (sym h));
      counters = (refl, tt);
    },
    tt,
  );
}

-- ---- Ticks and scripts

ticks : OnDone (start_run shared_program) (λ started. TicksFrom shared_program shared_child shared_run 0 trace started.cells)
unfolding digits
ticks = (
  record {
    outputs = refl;
    in_bound = lit≤ tt;
    calls = record {
      inside = record {
        each = (record { outs = 1 ∷ []; each_once = IsPermutation-refl (1 ∷ []); then_update = refl }, tt);
        stored_once = (lit≤ tt, (lit≤ tt, (lit≤ tt, (lit≤ tt, (lit≤ tt, tt)))));
        inner_stored_once = ((lit≤ tt, (lit≤ tt, tt)), tt);
        no_other = ((0, lit< tt, refl), ((1, lit< tt, refl), ((0, lit< tt, refl), ((0, lit< tt, refl), ((1, lit< tt, refl), tt)))));
      };
      top = record { outs = 8 ∷ 9 ∷ []; each_once = IsPermutation-refl (8 ∷ 9 ∷ []); then_update = refl };
    };
    holds = holds_first;
  },
  (
    record {
      outputs = refl;
      in_bound = lit≤ tt;
      calls = record {
        inside = record {
          each = (record { outs = 1 ∷ []; each_once = IsPermutation-refl (1 ∷ []); then_update = refl }, tt);
          stored_once = (lit≤ tt, (lit≤ tt, (lit≤ tt, (lit≤ tt, (lit≤ tt, tt)))));
          inner_stored_once = ((lit≤ tt, (lit≤ tt, tt)), tt);
          no_other = ((0, lit< tt, refl), ((1, lit< tt, refl), ((0, lit< tt, refl), ((0, lit< tt, refl), ((1, lit< tt, refl), tt)))));
        };
        top = record { outs = 8 ∷ 9 ∷ []; each_once = IsPermutation-refl (8 ∷ 9 ∷ []); then_update = refl };
      };
      holds = holds_second;
    },
    tt,
  ),
)

-- in the first tick the second function, the first, and the update; in the second the other way round
abbrev script : List Call
script =
    out_with 2 (pos 1 ∷ pos 10 ∷ []) ∷ out_with 1 (pos 1 ∷ []) ∷ update_with (pos 1 ∷ pos 10 ∷ [])
    ∷ out_with 1 (pos 2 ∷ []) ∷ out_with 2 (pos 2 ∷ pos 20 ∷ []) ∷ update_with (pos 2 ∷ pos 20 ∷ [])
    ∷ []

driven : OnDone (start_run shared_program)
    (λ started. DrivenFrom shared_program shared_child 1 (3 ∷ []) None (functions_for (1 ∷ 3 ∷ [])) trace shared_run 0
    started.cells [] [] [] script)
unfolding digits
driven = (
  ((refl, tt), tt),
  (
    ((refl, tt), ((refl, tt), tt)),
    (
      record {
        each = (record { outs = 1 ∷ []; each_once = IsPermutation-refl (1 ∷ []); then_update = refl }, tt);
        stored_once = (lit≤ tt, (lit≤ tt, (lit≤ tt, (lit≤ tt, (lit≤ tt, tt)))));
        inner_stored_once = ((lit≤ tt, (lit≤ tt, tt)), tt);
        no_other = ((0, lit< tt, refl), ((1, lit< tt, refl), ((0, lit< tt, refl), ((0, lit< tt, refl), ((1, lit< tt, refl), tt)))));
      },
      holds_first,
      (
        ((refl, tt), tt),
        (
          ((refl, tt), ((refl, tt), tt)),
          (
            record {
              each = (record { outs = 1 ∷ []; each_once = IsPermutation-refl (1 ∷ []); then_update = refl }, tt);
              stored_once = (lit≤ tt, (lit≤ tt, (lit≤ tt, (lit≤ tt, (lit≤ tt, tt)))));
              inner_stored_once = ((lit≤ tt, (lit≤ tt, tt)), tt);
              no_other = ((0, lit< tt, refl), ((1, lit< tt, refl), ((0, lit< tt, refl), ((0, lit< tt, refl), ((1, lit< tt, refl), tt)))));
            },
            holds_second,
            tt,
          ),
        ),
      ),
    ),
  ),
)
