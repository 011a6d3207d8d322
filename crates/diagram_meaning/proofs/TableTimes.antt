-- Sample times of a table whose rows write lawful ones.
use Rattle.std.specs.Prelude.{◌≡◌, ℕ, ◌<◌, Bool, true, false, length, slice_index_or, Option, Some, None, ◌↔◌}
use Rattle.std.proofs.Common.{refl, sym, ap, subst, arith, true≢false}
use native.Mathlib.Decide.{dec_lt}
use Rattle.base_core.specs.declared.Frac.{Frac}
use Rattle.base_core.specs.declared.TimeText.{TimeText}
use Rattle.base_core.specs.declared.TimeText.TheVariants.{Inherit, Constant, Each}
use Rattle.diagram_blocks.specs.declared.Kind.{Kind}
use Rattle.diagram_blocks.specs.declared.Kind.TheVariants.{RateTransition}
use Rattle.diagram_meaning.specs.declared.times.Time.{Time}
use Rattle.diagram_meaning.specs.RowTable.{RowTable}
use Rattle.diagram_meaning.specs.RowTimes.{RowTimes}
use Rattle.diagram_meaning.specs.Rows.{row_at, by_row}
use Rattle.diagram_meaning.specs.SampleTimes.{every_tick, ticks, written_time, Writes, outermost_trigger, FindsBefore, IsInputTime, slower, HasTimeBy, HasTimeIn, HasTime, IsSlowToFast, Delays, hyperperiod, AreTimes}
use Rattle.diagram_meaning.specs.TimeLaws.{IsBelow, OffsetsAreBelow, TimesAreThere}
use Rattle.diagram_meaning.proofs.lemmas.ByRow.{by_row-at, length-by_row}
use Rattle.diagram_meaning.proofs.OneTime.{IsInferred-one, Writes-one}
use Rattle.diagram_meaning.proofs.SomeTimes.{input_time}

module _ (table : RowTable) where
  writes : (period offset : Frac) → IsBelow table (Each period offset) → (time : Time) × Writes table (Each period offset) time
  writes period offset below = (record { period = ticks table period; offset = ticks table offset; in_period = below }, (refl, refl))

  by_text : (b : ℕ) (kind : Kind) (text : TimeText) → IsBelow table text → (time : Time) × HasTimeBy table b kind text time
  by_text b kind Inherit below = input_time table b
  by_text b kind Constant below = (every_tick, refl)
  by_text b (RateTransition initial out) (Each period offset) below =
      let inside = input_time table b in
      let outside = writes period offset below in
      (slower inside.0 outside.0, (inside.0, outside.0, inside.1, outside.1, refl))
  by_text b kind (Each period offset) below = writes period offset below

  -- a row of the table has a time; for one past its end any will do
  time_of : OffsetsAreBelow table → (b : ℕ) → (time : Time) × (b < length table.rows → HasTime table b time)
  time_of below b = elim (dec_lt b (length table.rows)) [
    | yes inside ↦ let timed = by (outermost_trigger table.rows b) (below b inside) in (timed.0, λ _. timed.1)
    | no past ↦ (every_tick, λ inside. absurd (past inside))
  ]
    where
      by : (trigger : Option ℕ) → (trigger ≡ None → IsBelow table (written_time table.rows b)) →
          (time : Time) × HasTimeIn table b trigger time
      by None known = by_text b (row_at table.rows b).kind (written_time table.rows b) (known refl)
      by (Some e) known = (every_tick, refl)

  -- and where it has one, its offset is below its period
  below_text : (b : ℕ) (kind : Kind) (text : TimeText) (time : Time) → HasTimeBy table b kind text time → IsBelow table text
  below_text b kind Inherit time h = tt
  below_text b kind Constant time h = tt
  below_text b (RateTransition initial out) (Each period offset) time h = let below = h.1.in_period in let w = h.3 in omega
      (arith, below, w.0, w.1)
  below_text b kind (Each period offset) time h = let below = time.in_period in omega (arith, below, h.0, h.1)

  below_from : (times : RowTimes) → AreTimes table times → OffsetsAreBelow table
  below_from times are b inside none =
      below_text b (row_at table.rows b).kind (written_time table.rows b) (slice_index_or times.run b every_tick)
      (subst (λ trigger. HasTimeIn table b trigger (slice_index_or times.run b every_tick)) none (are.run b inside))

  -- ---- Which rows are delays between rates

  -- a question that is answered
  abbrev Answered : Type 0 → Type 0
  Answered P = (answer : Bool) × ((answer ≡ true) ↔ P)

  answered-no : (P : Type 0) → (P → ⊥) → Answered P
  answered-no P never = (false, (λ e. absurd (true≢false (sym e)), λ p. absurd (never p)))

  -- whether a transition is one from slow to fast, where its output has this text
  abbrev Slows : ℕ → TimeText → Type 0
  Slows b out = (inside outside : Time) × IsInputTime table b inside × Writes table out outside × (outside.period < inside.period)

  slows : (b : ℕ) (out : TimeText) → Answered (Slows b out)
  slows b Inherit = answered-no _ (λ h. h.3)
  slows b Constant = answered-no _ (λ h. h.3)
  slows b (Each period offset) = elim (dec_lt (ticks table offset) (ticks table period)) [
    | yes below ↦ compare below
    | no above ↦ answered-no _ (λ h. let below = h.1.in_period in let w = h.3 in absurd (omega (arith, below, w.0, w.1)))
  ]
    where
      compare : ticks table offset < ticks table period → Answered (Slows b (Each period offset))
      compare below =
          let inside = input_time table b in
          let outside = writes period offset below in
          elim (dec_lt outside.0.period inside.0.period) [
            | yes less ↦ (true, (λ e. (inside.0, outside.0, inside.1, outside.1, less), λ h. refl))
            | no more ↦ answered-no _ (λ h.
                let one : h.0.period ≡ inside.0.period = ap (λ (t : Time). t.period)
                (IsInferred-one (FindsBefore table b) h.0 inside.0 h.2 inside.1) in
                let two : h.1.period ≡ outside.0.period = ap (λ (t : Time). t.period)
                (Writes-one table (Each period offset) h.1 outside.0 h.3 outside.1) in
                absurd (omega (arith, one, two, h.4)))
          ]

  slow_kind : (b : ℕ) (kind : Kind) → Answered (IsSlowToFast table b kind)
  slow_kind b (RateTransition initial out) = slows b out
  slow_kind b _ = answered-no _ (λ h. h)

  delays_of : (b : ℕ) → Answered (Delays table b)
  delays_of b = by (outermost_trigger table.rows b)
    where
      some-none : (e : ℕ) → (let trigger : Option ℕ = Some e in trigger ≡ None) → ⊥
      some-none e h = cc h

      by : (trigger : Option ℕ) → Answered ((trigger ≡ None) × IsSlowToFast table b (row_at table.rows b).kind)
      by (Some e) = answered-no _ (λ h. some-none e h.0)
      by None = let slow = slow_kind b (row_at table.rows b).kind in (slow.0, (λ e. (refl, slow.1.0 e), λ h. slow.1.1 h.1))

  -- ---- All rows

  pub table_times : OffsetsAreBelow table → (times : RowTimes) × AreTimes table times
  table_times below =
      let times : RowTimes = record {
        run = by_row table.rows (λ b. (time_of below b).0);
        delays = by_row table.rows (λ b. (delays_of b).0);
        hyper = hyperperiod table;
      } in (
        times,
        record {
          run_length = length-by_row table.rows (λ b. (time_of below b).0);
          run = λ b inside. subst (HasTime table b) (sym (by_row-at table.rows (λ k. (time_of below k).0) b every_tick inside))
              ((time_of below b).1 inside);
          delays_length = length-by_row table.rows (λ b. (delays_of b).0);
          delays = λ b inside. subst (λ (answer : Bool). (answer ≡ true) ↔ Delays table b)
              (sym (by_row-at table.rows (λ k. (delays_of k).0) b false inside)) (delays_of b).1;
          hyper = refl;
        },
      )

pub times_are_there : TimesAreThere
times_are_there table = (table_times table, λ given. below_from table given.0 given.1)
