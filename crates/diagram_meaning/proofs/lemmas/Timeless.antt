-- A table in which no row writes a period runs at every tick, and has the types that rules lead to.
use Rattle.std.specs.Prelude.{◌≡◌, ℕ, zero, suc, ◌<◌, Bool, true, false, not, List, length, replicate, slice_index_or, Option, Some, None, is_some, unwrap_or}
use Rattle.std.proofs.Common.{refl, sym, ◌∙◌, ap, subst, arith, true≢false}
use Rattle.std.proofs.lemmas.List.{get_or_past}
use native.Mathlib.Decide.{dec_lt}
use Rattle.base_core.specs.declared.TimeText.{TimeText}
use Rattle.base_core.specs.declared.TimeText.TheVariants.{Inherit, Constant, Each}
use Rattle.base_fixed_point.specs.declared.FixType.{FixType}
use Rattle.base_fixed_point.specs.Types.{boolean}
use Rattle.diagram_blocks.specs.declared.Kind.{Kind}
use Rattle.diagram_blocks.specs.declared.Kind.TheVariants.{RateTransition}
use Rattle.diagram_blocks.specs.declared.Op.{Op}
use Rattle.diagram_meaning.specs.declared.table.Row.{Row}
use Rattle.diagram_meaning.specs.declared.times.Time.{Time}
use Rattle.diagram_meaning.specs.RowTable.{RowTable}
use Rattle.diagram_meaning.specs.RowTimes.{RowTimes}
use Rattle.diagram_meaning.specs.Rows.{row_at, no_row, by_row}
use Rattle.diagram_meaning.specs.Types.{HasType, type_at}
use Rattle.diagram_meaning.specs.SampleTimes.{every_tick, written_by, written_time, search_time, search_time_in, Writes, Finds, here, through, outermost_trigger, IsInputTime, HasTimeBy, HasTimeIn, HasTime, IsSlowToFast, Delays, hyperperiod, AreTimes}
use Rattle.diagram_meaning.specs.TypeRefusals.{type_of_row, types_of_rows, type_refusal}
use Rattle.diagram_meaning.specs.TimeRefusals.{is_each, rate_refusal, written_time_refusal, HasTimeRefusal}
use Rattle.diagram_meaning.specs.Diagram.{op_in, IsResolved}
use Rattle.diagram_meaning.proofs.lemmas.ByRow.{by_row-at, length-by_row}
use Rattle.diagram_meaning.proofs.lemmas.TypeFollowed.{type_followed}
use Rattle.diagram_meaning.proofs.lemmas.Tests.{all_below, below-at}

-- n copies, and what is at a place
replicate-at : {X : Type 0} (n : ℕ) (x : X) (b : ℕ) → slice_index_or (replicate n x) b x ≡ x
replicate-at zero x b = refl
replicate-at (suc n) x zero = refl
replicate-at (suc n) x (suc b) = replicate-at n x b

pub length-copies : {X : Type 0} (n : ℕ) (x : X) → length (replicate n x) ≡ n
length-copies zero x = refl
length-copies (suc n) x = ap suc (length-copies n x)

module _ (table : RowTable) where
  -- whether no row writes a period
  abbrev pub timeless : Bool
  timeless = all_below (λ b. not (is_each (written_time table.rows b))) (length table.rows)

  module _ (quiet : timeless ≡ true) where
    no_period : (b : ℕ) → is_each (written_time table.rows b) ≡ false
    no_period b = elim (dec_lt b (length table.rows)) [
      | yes inside ↦
          by (is_each (written_time table.rows b))
          (below-at (λ b. not (is_each (written_time table.rows b))) (length table.rows) b quiet inside)
      | no past ↦ ap (λ (r : Row). is_each (written_by r.kind r.time_text)) (get_or_past table.rows b no_row (omega arith))
    ]
      where
        by : (each : Bool) → not each ≡ true → each ≡ false
        by false h = refl
        by true h = sym h

    writes_none : (text : TimeText) (time : Time) → is_each text ≡ false → Writes table text time → ⊥
    writes_none Inherit time e w = w
    writes_none Constant time e w = w
    writes_none (Each period offset) time e w = true≢false e

    searched : (b : ℕ) → is_each (search_time table.rows b) ≡ false
    searched b = by (outermost_trigger table.rows b)
      where
        by : (trigger : Option ℕ) → is_each (search_time_in trigger (written_time table.rows b)) ≡ false
        by None = no_period b
        by (Some e) = refl

    finds_none : (b : ℕ) (time : Time) → Finds table b time → ⊥
    finds_none b time (here w) = writes_none (search_time table.rows b) time (searched b) w
    finds_none b time (through {c = c} e h f) = finds_none c time f

    input_time : (b : ℕ) → IsInputTime table b every_tick
    input_time b = record { none = λ h. refl; some = λ found f. absurd (finds_none f.0 found f.2) }

    has_time : (b : ℕ) → HasTime table b every_tick
    has_time b = by (outermost_trigger table.rows b)
      where
        by_text : (kind : Kind) (text : TimeText) → is_each text ≡ false → HasTimeBy table b kind text every_tick
        by_text kind Inherit e = input_time b
        by_text kind Constant e = refl
        by_text kind (Each period offset) e = absurd (true≢false e)

        by : (trigger : Option ℕ) → HasTimeIn table b trigger every_tick
        by None = by_text (row_at table.rows b).kind (written_time table.rows b) (no_period b)
        by (Some e) = refl

    no_delay : (b : ℕ) → Delays table b → ⊥
    no_delay b h = by (row_at table.rows b).kind (no_period b) h.1
      where
        by : (kind : Kind) → is_each (written_by kind (row_at table.rows b).time_text) ≡ false → IsSlowToFast table b kind → ⊥
        by (RateTransition initial out) e s = writes_none out s.1 e s.3
        by _ e s = s

    -- the times of such a table
    abbrev pub at_every_tick : RowTimes
    at_every_tick = record { run = replicate (length table.rows) every_tick; delays = replicate (length table.rows) false; hyper = 1 }

    are_times : hyperperiod table ≡ 1 → AreTimes table at_every_tick
    are_times h = record {
      run_length = length-copies (length table.rows) every_tick;
      run = λ b below. subst (HasTime table b) (sym (replicate-at (length table.rows) every_tick b)) (has_time b);
      delays_length = length-copies (length table.rows) false;
      delays = λ b below. (
        λ e. absurd (true≢false (sym e ∙ replicate-at (length table.rows) false b)),
        λ d. absurd (no_delay b d),
      );
      hyper = sym h;
    }

    times_right : written_time_refusal table ≡ None →
        rate_refusal table (replicate (length table.rows) every_tick) ≡ None → HasTimeRefusal table None
    times_right e f = rw e (
      replicate (length table.rows) every_tick,
      record {
        one_each = length-copies (length table.rows) every_tick;
        are_input_times = λ b below. subst (IsInputTime table b) (sym (replicate-at (length table.rows) every_tick b)) (input_time b);
      },
      sym f,
    )

    have_types : all_below (λ b. is_some (type_of_row table.rows b)) (length table.rows) ≡ true → (b : ℕ) →
        b < length table.rows → HasType table.rows b (type_at (types_of_rows table.rows) b)
    have_types h b below =
        by (type_of_row table.rows b) refl
        (below-at (λ b. is_some (type_of_row table.rows b)) (length table.rows) b h below)
      where
        by : (found : Option FixType) → type_of_row table.rows b ≡ found → is_some found ≡ true →
            HasType table.rows b (type_at (types_of_rows table.rows) b)
        by None e s = absurd (true≢false (sym s))
        by (Some t) e s =
            let at : type_at (types_of_rows table.rows) b ≡ t =
            by_row-at table.rows (λ c. unwrap_or (type_of_row table.rows c) boolean) b boolean below
            ∙ ap (λ (o : Option FixType). unwrap_or o boolean) e in
            subst (HasType table.rows b) (sym at) ((type_followed table.rows b t).1 e)

    -- the operations of such a table
    abbrev pub timeless_ops : List Op
    timeless_ops = by_row table.rows (op_in table.rows (types_of_rows table.rows) (replicate (length table.rows) false))

    -- a table with nothing wrong and no period is resolved by its types, at every tick
    pub resolved-from : type_refusal table.rows ≡ None → written_time_refusal table ≡ None →
        rate_refusal table (replicate (length table.rows) every_tick) ≡ None →
        hyperperiod table ≡ 1 → all_below (λ b. is_some (type_of_row table.rows b)) (length table.rows) ≡ true →
        IsResolved table (types_of_rows table.rows) timeless_ops at_every_tick
    resolved-from t w r h typed = record {
      types_accepted = t;
      times_accepted = times_right w r;
      one_type_each = length-by_row table.rows (λ b. unwrap_or (type_of_row table.rows b) boolean);
      are_types = have_types typed;
      are_times = are_times h;
      are_ops = refl;
    }
