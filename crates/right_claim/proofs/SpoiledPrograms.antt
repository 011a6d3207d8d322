-- Programs that are wrong in one thing after a second start, after a reset, between two ticks, or where functions are called in
-- another order: each is refused.
use Rattle.std.specs.Prelude.{◌≡◌, ◌⊎◌, refl, ℕ, zero, suc, ◌-◌, ◌≤◌, [], ◌∷◌, List, slice_index_or, Some, None, pos, ℤ}
use Rattle.std.specs.Fmt.{digits}
use Rattle.std.proofs.Common.{sym, ap, arith, inl, inr, lit<, lit≤, rules, true≢false}
use Rattle.std.proofs.lemmas.List.Sorted.{IsPermutation-refl}
use Rattle.diagram_meaning.specs.Needs.{IsInputRow, AreTrueNeeds}
use Rattle.diagram_meaning.specs.Laws.{Run, IsRunOver}
use Rattle.modules_profile.specs.Functions.{functions_for}
use Rattle.modules_profile.specs.LocalSamples.{shared_child}
use Rattle.c_syntax.specs.declared.CType.TheVariants.{I32, U8}
use Rattle.c_semantics.specs.Cells.{Cells, number, no_cells, more_cells}
use Rattle.c_semantics.specs.Machine.{call_from_outside}
use Rattle.c_semantics.specs.Rows.{start_run}
use Rattle.emit_shape.specs.Names.{start_name, reset_name}
use Rattle.emit_shape.specs.Programs.{procedure_place, struct_place}
use Rattle.right_relation.specs.Instances.{OnDone}
use Rattle.right_relation.specs.Forms.{Forms, holds_number, holds_array, forms_of}
use Rattle.right_claim.specs.Scripts.{Call, out_with, update_with, IsLawfulScript, Fits}
use Rattle.right_claim.specs.Driving.{TicksFrom, TakesTraces}
use Rattle.right_claim.specs.Right.{AnswersAnyOrder}
use Rattle.right_claim.specs.Anew.{AreStarted, AreReset, HoldsInside, FromAnyFields, RenewsAll, Restarts}
use Rattle.right_claim.specs.WholeSamples.{later_five, first_values, later_values, remembered, no_triggers, run_over}
use Rattle.right_claim.specs.SpoiledSamples.{ring_five, ring_program, early_ring, lasting_ring, child_midst, root_midst, shifted_value, long_start, counting_reset, stores_again, mends_output}
use Rattle.right_claim.proofs.SharedNeeds.{outer_needs}
use Rattle.right_claim.proofs.SharedRenewals.{from-spelled}
use Rattle.right_claim.proofs.RefusedPrograms.{values-apart, one_row, short_run, is_short_run, is_trace}
use Rattle.right_claim.proofs.WholeRuns.{root-runs, is-run_of}
use Rattle.right_claim.proofs.WholeFaces.{no-bit}

-- ---- A ring that is read whatever was taken

abbrev ring_run : Run
ring_run = record {
  values = first_values ∷ [];
  memories = remembered (pos 0) ∷ remembered (pos 5) ∷ [];
  triggers = no_triggers ∷ no_triggers ∷ [];
}

is_ring_run : IsRunOver ring_five None ([] ∷ []) ring_run
is_ring_run = (refl, refl, (record { values = refl; memories = refl; triggers = refl }, tt))

is_child_run : IsRunOver ring_five (Some 0) ([] ∷ []) ring_run
is_child_run = (refl, refl, (record { values = refl; memories = refl; triggers = refl }, tt))

-- two lists of one number are the same
the-same : (a b : ℤ) → a ∷ [] ≡ b ∷ [] → a ≡ b
the-same a b e = ap (λ (vs : List ℤ). slice_index_or vs 0 (pos 0)) e

-- after a start from fields whose ring holds a 9 the first output is 9, and should be 0
started_again : Restarts early_ring ring_five 1 → ⊥
unfolding digits
started_again h =
    let begun =
    h root_midst
    (refl, (refl, ((refl, ((refl, (refl, (refl, ((refl, (refl, tt)), (refl, (refl, (refl, tt))))))), (refl, tt))), tt))) in
    values-apart 9 0 refl (the-same (pos 9) (pos 0) (begun.1.traces ([] ∷ []) ring_run (tt, tt) is_ring_run).0.outputs)

-- one that reads it where a sample was taken answers the trace, and its ring holds what the delay remembers
answered_again : OnDone (call_from_outside ring_program 10 [] [] root_midst)
    (λ begun. TicksFrom ring_program ring_five ring_run 0 ([] ∷ []) begun.cells)
unfolding digits
answered_again = (
  record {
    outputs = refl;
    in_bound = lit≤ tt;
    calls = record {
      inside = record {
        each = (record { outs = 1 ∷ []; each_once = IsPermutation-refl (1 ∷ []); then_update = refl }, tt);
        stored_once = (lit≤ tt, tt);
        inner_stored_once = ((lit≤ tt, (lit≤ tt, (lit≤ tt, tt))), tt);
        no_other = ((0, lit< tt, refl), ((1, lit< tt, refl), ((0, lit< tt, refl), ((1, lit< tt, refl), tt))));
      };
      top = record { outs = 6 ∷ []; each_once = IsPermutation-refl (6 ∷ []); then_update = refl };
    };
    holds = record {
      here = record {
        values = (refl, tt);
        memories = tt;
        rings = tt;
        trigger = λ h. absurd (true≢false (sym h));
        counters = (refl, tt);
      };
      inside = (
        record {
          values = (refl, (refl, (refl, tt)));
          memories = tt;
          rings = (
            record {
              ring = record { items = pos 5 ∷ []; place = 0; taken = 1 };
              items = refl;
              place = refl;
              taken = refl;
              holds = record { place = lit< tt; taken = lit≤ tt; long = refl; holds = refl };
            },
            tt,
          );
          trigger = λ h. absurd (true≢false (sym h));
          counters = (refl, tt);
        },
        tt,
      );
    };
  },
  tt,
)

-- no output of the child needs an input
no-input : (k i : ℕ) → IsInputRow ring_five.rows (Some 0) k i → ⊥
no-input k (suc (suc (suc (suc (suc i))))) h = let below = h.in_table in omega arith
no-input k _ h = cc h.is_inport

ring_needs : AreTrueNeeds ring_five (Some 0) (0 ∷ [])
ring_needs = (
  record {
    bounded = lit< tt;
    number = λ k above below. (λ b. absurd (no-bit (k - 1) b), λ t. absurd (no-input k t.0 t.1));
    enable = (λ b. absurd (no-bit 32 b), λ t. absurd (true≢false (sym t)));
    trigger = (λ b. absurd (no-bit 33 b), λ t. absurd (true≢false (sym t)));
  },
  tt,
)

abbrev one_call : List Call
one_call = out_with 1 [] ∷ []

one_call_lawful : IsLawfulScript ring_five (Some 0) (functions_for (0 ∷ [])) one_call
one_call_lawful = (record { in_turn = (lit< tt, lit≤ tt, refl); in_types = tt; alike = tt }, tt)

one_call_fits : Fits ring_five (Some 0) (functions_for (0 ∷ [])) ([] ∷ []) one_call
one_call_fits = record { one_row_each = refl; agrees = (tt, tt) }

-- so it is in a child that is started by itself
child_started : RenewsAll early_ring ring_five 1 (Some 0) → ⊥
unfolding digits
child_started h =
    let begun = h.starts child_midst (refl, (refl, (refl, ((refl, (refl, tt)), (refl, (refl, (refl, tt))))))) in
    values-apart 9 0 refl
    (begun.1.1 (0 ∷ []) one_call ([] ∷ []) ring_run ring_needs one_call_lawful (tt, tt) one_call_fits is_child_run).0.0.0

-- ---- A ring that is started and reset

abbrev ring_forms : Forms
ring_forms =
    let value = holds_number I32 in
    forms_of (value ∷ value ∷ value ∷ holds_array I32 1 ∷ value ∷ value ∷ holds_number U8 ∷ [])

-- the items stay as they are, and none counts as taken
ring_starts : FromAnyFields ring_program (struct_place ring_program (Some 0)) (procedure_place ring_program (start_name (Some 0)))
    (HoldsInside ring_program ring_five (Some 0) (λ n old new. AreStarted ring_program ring_five n new))
unfolding digits
ring_starts =
    from-spelled ring_program (procedure_place ring_program (start_name (Some 0))) ring_forms
    (HoldsInside ring_program ring_five (Some 0) (λ n old new. AreStarted ring_program ring_five n new))
    (λ c. (
      lit≤ tt,
      record {
        here = record {
          forgotten = record { memories = tt; places = (refl, tt); taken = (refl, tt); trigger = λ h. absurd (true≢false (sym h)) };
          values = (refl, (refl, (refl, tt)));
          counters = (refl, tt);
        };
        inside = tt;
      },
    ))

ring_resets : FromAnyFields ring_program (struct_place ring_program (Some 0)) (procedure_place ring_program (reset_name (Some 0)))
    (HoldsInside ring_program ring_five (Some 0) (AreReset ring_program ring_five))
unfolding digits
ring_resets =
    from-spelled ring_program (procedure_place ring_program (reset_name (Some 0))) ring_forms
    (HoldsInside ring_program ring_five (Some 0) (AreReset ring_program ring_five))
    (λ c. (
      lit≤ tt,
      record {
        here = record {
          forgotten = record { memories = tt; places = (refl, tt); taken = (refl, tt); trigger = λ h. absurd (true≢false (sym h)) };
          values = (refl, (refl, (refl, tt)));
          counters = (inr refl, tt);
        };
        inside = tt;
      },
    ))

lasting : RenewsAll lasting_ring ring_five 1 (Some 0) → ⊥
unfolding digits
lasting h =
    values-apart 1 0 refl
    (h.resets child_midst (refl, (refl, (refl, ((refl, (refl, tt)), (refl, (refl, (refl, tt)))))))).1.here.forgotten.taken.0

-- ---- Values inside

abbrev two_ticks : List (List ℤ)
two_ticks = [] ∷ [] ∷ []

-- in the second tick the delay's value is 5, and its field holds 6
shifted : OnDone (start_run shifted_value) (λ started. TakesTraces shifted_value later_five started.cells) → ⊥
unfolding digits
shifted h =
    let ticks = h two_ticks (run_over later_values two_ticks) (tt, (tt, tt))
    (is-run_of None later_values root-runs two_ticks (tt, (tt, tt))) in
    values-apart 6 5 refl ticks.1.0.holds.inside.0.values.0

-- ---- Starts and resets

-- fields of the child between two ticks
abbrev between : Cells
between =
    more_cells (number (pos 5))
    (more_cells (number (pos 5)) (more_cells (number (pos 5)) (more_cells (number (pos 5)) (more_cells (number (pos 0)) no_cells))))

-- the start takes 10 steps, for 5 fields
long : RenewsAll long_start later_five 1 (Some 0) → ⊥
unfolding digits
long h = let within : 10 ≤ 5 = (h.starts between (refl, (refl, (refl, (refl, (refl, tt)))))).0 in omega arith

-- a counter was 0, and is 1 after the reset
counted : RenewsAll counting_reset later_five 1 (Some 0) → ⊥
unfolding digits
counted h = by (h.resets between (refl, (refl, (refl, (refl, (refl, tt)))))).1.here.counters.0
  where
    by : (pos 1 ≡ pos 0) ⊎ (pos 1 ≡ pos 0) → ⊥
    by (inl e) = values-apart 1 0 refl e
    by (inr e) = values-apart 1 0 refl e

-- ---- Another order

abbrev second_first : List Call
second_first = out_with 2 (pos 1 ∷ pos 10 ∷ []) ∷ out_with 1 (pos 1 ∷ []) ∷ update_with (pos 1 ∷ pos 10 ∷ []) ∷ []

second_first_lawful : IsLawfulScript shared_child None (functions_for (1 ∷ 3 ∷ [])) second_first
second_first_lawful = (
  record {
    in_turn = (lit< tt, lit≤ tt, refl);
    in_types = (search rules, (search rules, tt));
    alike = (tt, (tt, tt));
  },
  (
    record {
      in_turn = (lit< tt, lit≤ tt, refl);
      in_types = (search rules, tt);
      alike = ((λ e. refl, (λ e. cc e, tt)), tt);
    },
    (
      record {
        in_turn = refl;
        in_types = (search rules, (search rules, tt));
        alike = ((λ e. refl, (λ e. refl, (λ e. cc e, tt))), ((λ e. cc e, (λ e. cc e, (λ e. refl, tt))), tt));
      },
      tt,
    ),
  ),
)

second_first_fits : Fits shared_child None (functions_for (1 ∷ 3 ∷ [])) one_row second_first
second_first_fits = record { one_row_each = refl; agrees = ((refl, (refl, tt)), ((refl, tt), ((refl, (refl, tt)), tt))) }

-- where the second function comes first, In1 is stored twice
stored_again : AnswersAnyOrder stores_again shared_child 1 None → ⊥
unfolding digits
stored_again h =
    let driven = h (1 ∷ 3 ∷ []) second_first one_row short_run outer_needs second_first_lawful is_trace second_first_fits is_short_run in
    let once : 2 ≤ 1 = driven.1.1.0.stored_once.0 in omega arith

abbrev first_second : List Call
first_second = out_with 1 (pos 1 ∷ []) ∷ out_with 2 (pos 1 ∷ pos 10 ∷ []) ∷ []

first_second_lawful : IsLawfulScript shared_child None (functions_for (1 ∷ 3 ∷ [])) first_second
first_second_lawful = (
  record { in_turn = (lit< tt, lit≤ tt, refl); in_types = (search rules, tt); alike = (tt, tt) },
  (
    record {
      in_turn = (lit< tt, lit≤ tt, refl);
      in_types = (search rules, (search rules, tt));
      alike = ((λ e. refl, tt), ((λ e. cc e, tt), tt));
    },
    tt,
  ),
)

first_second_fits : Fits shared_child None (functions_for (1 ∷ 3 ∷ [])) one_row first_second
first_second_fits = record { one_row_each = refl; agrees = ((refl, tt), ((refl, (refl, tt)), tt)) }

-- after the second function the first output is 0, and should be 1 until the next tick
mended : AnswersAnyOrder mends_output shared_child 1 None → ⊥
unfolding digits
mended h =
    let driven = h (1 ∷ 3 ∷ []) first_second one_row short_run outer_needs first_second_lawful is_trace first_second_fits is_short_run in
    values-apart 0 1 refl driven.1.0.1.0.0
