-- The period of each row divides the cycle after which all hits repeat.
use Rattle.std.proofs.Common.{◌≡◌, refl, sym, ◌∙◌, ap, subst, ℕ, zero, suc, ◌*◌, ◌/◌, ◌%◌, ◌<◌, Bool, true, false, if◌then◌else◌, List, [], ◌∷◌, ◌++◌, Option, None, Some, arith, true≢false}
use Rattle.std.specs.Prelude.{◌==◌, ◌&&◌, nat_lt, flat_map, fold, length, is_some, slice_index_or, ⊤}
use Rattle.std.specs.Int.{◌∣◌}
use Rattle.std.proofs.Math.Nat.{mod-mod_of_dvd}
use Rattle.std.proofs.lemmas.Nat.Gcd.{dvd_of_mod-eq-zero, mod-eq-zero_of_dvd}
use native.Mathlib.Decide.{ℕ_discrete}
use native.Mathlib.Nat.{one-dvd, dvd_refl, dvd_trans, dvd-zero, zero-div, eq-zero_of_zero-dvd, dvd-mul_left, dvd-mul_right}
use Rattle.base_core.specs.declared.TimeText.{TimeText}
use Rattle.base_core.specs.declared.TimeText.TheVariants.{Inherit, Constant, Each}
use Rattle.base_core.specs.Numbers.{gcd, lcm}
use Rattle.base_refusals.specs.Refusals.{TimeInside}
use Rattle.base_core.proofs.lemmas.LeastMultiple.{lcm_is}
use Rattle.diagram_blocks.specs.declared.Kind.{Kind}
use Rattle.diagram_blocks.specs.declared.Kind.TheVariants.{RateTransition}
use Rattle.diagram_meaning.specs.declared.table.Row.{Row}
use Rattle.diagram_meaning.specs.declared.times.Time.{Time}
use Rattle.diagram_meaning.specs.RowTable.{RowTable}
use Rattle.diagram_meaning.specs.Rows.{row_at}
use Rattle.base_refusals.specs.FirstRefusal.{least_line}
use Rattle.diagram_meaning.specs.TypeRefusals.{line_at}
use Rattle.diagram_meaning.specs.SampleTimes.{every_tick, written_by, written_time, ticks, Writes, periods_in, hyperperiod, outermost_trigger, search_time_in, Finds, here, through, IsInputTime, HasTimeBy, HasTimeIn, HasTime}
use Rattle.diagram_meaning.specs.TimeRefusals.{is_each, times_inside}
use Rattle.diagram_meaning.specs.ResolvedLaws.{PeriodsDivideCycle, HitsRepeat, CyclesHaveTicks}
use Rattle.diagram_meaning.proofs.lemmas.Accepted.{none_later, nothing_listed, none_pass, nothing_written}

-- ---- Multiples

lcm_zero : (a : ℕ) → lcm a 0 ≡ 0
lcm_zero a = let e : a * 0 ≡ 0 = omega arith in ap (λ n. n / gcd a 0) e ∙ zero-div (gcd a 0)

pub divides_left : (a b : ℕ) → a ∣ lcm a b
divides_left a zero = subst (λ n. a ∣ n) (sym (lcm_zero a)) (dvd-zero a)
divides_left a (suc b) = (lcm_is a (suc b) (omega arith)).0

pub divides_right : (a b : ℕ) → b ∣ lcm a b
divides_right a zero = subst (λ n. 0 ∣ n) (sym (lcm_zero a)) (dvd_refl 0)
divides_right a (suc b) = (lcm_is a (suc b) (omega arith)).1

-- a multiple of positive numbers is positive
pub lcm_positive : (a b : ℕ) → 0 < a → 0 < b → 0 < lcm a b
lcm_positive (suc a) (suc b) h k = by (lcm (suc a) (suc b)) refl
  where
    by : (n : ℕ) → lcm (suc a) (suc b) ≡ n → 0 < n
    by (suc n) e = omega arith
    by zero e =
        let all = (lcm_is (suc a) (suc b) (omega arith)).2 (suc a * suc b) (dvd-mul_right (suc a) (suc b)) (dvd-mul_left (suc b) (suc a)) in
        let nothing : suc a * suc b ≡ 0 = eq-zero_of_zero-dvd (subst (λ n. n ∣ suc a * suc b) e all) in
        absurd (omega (arith, nothing))
lcm_positive zero b h k = absurd (omega arith)
lcm_positive (suc a) zero h k = absurd (omega arith)

-- what divides the first number divides the multiple of all
fold_keeps : (k so_far : ℕ) (ns : List ℕ) → k ∣ so_far → k ∣ fold lcm so_far ns
fold_keeps k so_far [] h = h
fold_keeps k so_far (n ∷ ns) h = fold_keeps k (lcm so_far n) ns (dvd_trans k h (divides_left so_far n))

-- ---- Written periods

module _ (table : RowTable) where
  abbrev periods : List Row → List ℕ
  periods rows = flat_map (λ (row : Row). periods_in table (written_by row.kind row.time_text)) rows

  text_divides : (text : TimeText) (time : Time) (so_far : ℕ) (rest : List ℕ) → Writes table text time →
      time.period ∣ fold lcm so_far (periods_in table text ++ rest)
  text_divides Inherit time so_far rest w = absurd w
  text_divides Constant time so_far rest w = absurd w
  text_divides (Each period offset) time so_far rest w =
      fold_keeps time.period (lcm so_far (ticks table period)) rest
      (subst (λ n. n ∣ lcm so_far (ticks table period)) (sym w.0) (divides_right so_far (ticks table period)))

  -- the periods of a text come to one number
  passed : (text : TimeText) (so_far : ℕ) (rest : List ℕ) → (n : ℕ) × (fold lcm so_far (periods_in table text ++ rest) ≡ fold lcm n rest)
  passed Inherit so_far rest = (so_far, refl)
  passed Constant so_far rest = (so_far, refl)
  passed (Each period offset) so_far rest = (lcm so_far (ticks table period), refl)

  row_divides : (rows : List Row) (b so_far : ℕ) (time : Time) →
      Writes table (written_by (row_at rows b).kind (row_at rows b).time_text) time →
      time.period ∣ fold lcm so_far (periods rows)
  row_divides [] b so_far time w = absurd w
  row_divides (row ∷ rows) zero so_far time w = text_divides (written_by row.kind row.time_text) time so_far (periods rows) w
  row_divides (row ∷ rows) (suc b) so_far time w =
      let over = passed (written_by row.kind row.time_text) so_far (periods rows) in
      subst (λ n. time.period ∣ n) (sym over.1) (row_divides rows b over.0 time w)

  -- ---- Times

  abbrev divides : Time → Type 0
  divides time = time.period ∣ hyperperiod table

  each_tick : divides every_tick
  each_tick = one-dvd (hyperperiod table)

  found_divides : (c : ℕ) (time : Time) → Finds table c time → divides time
  found_divides c time (here w) = by (outermost_trigger table.rows c) w
    where
      by : (trigger : Option ℕ) → Writes table (search_time_in trigger (written_time table.rows c)) time → divides time
      by None w = row_divides table.rows c 1 time w
      by (Some e) w = absurd w
  found_divides c time (through {c = next} e h f) = found_divides next time f

  input_divides : (b : ℕ) (time : Time) → IsInputTime table b time → divides time
  input_divides b time given = elim (ℕ_discrete (hyperperiod table % time.period) 0) [
    | yes e ↦ dvd_of_mod-eq-zero time.period e
    | no differ ↦ absurd (differ (mod-eq-zero_of_dvd time.period (otherwise differ)))
  ]
    where
      otherwise : (hyperperiod table % time.period ≡ 0 → ⊥) → divides time
      otherwise differ = subst divides (sym (given.none (λ found f.
          differ (mod-eq-zero_of_dvd time.period
          (dvd_trans time.period (dvd_of_mod-eq-zero time.period ((given.some found f).includes found f).0)
          (found_divides f.0 found f.2)))))) each_tick

  text_time_divides : (b : ℕ) (kind : Kind) (text : TimeText) (time : Time) → text ≡ written_time table.rows b →
      HasTimeBy table b kind text time → divides time
  text_time_divides b kind Inherit time e h = input_divides b time h
  text_time_divides b kind Constant time e h = subst divides (sym h) each_tick
  text_time_divides b (RateTransition initial out) (Each period offset) time e h =
      subst divides (sym h.4) (by (nat_lt h.1.period h.0.period))
    where
      by : (faster : Bool) → divides (if faster then h.0 else h.1)
      by true = input_divides b h.0 h.2
      by false = row_divides table.rows b 1 h.1 (subst (λ text. Writes table text h.1) e h.3)
  text_time_divides b kind (Each period offset) time e h = row_divides table.rows b 1 time (subst (λ text. Writes table text time) e h)

  pub time_divides : (b : ℕ) (time : Time) → HasTime table b time → divides time
  time_divides b time h = by (outermost_trigger table.rows b) h
    where
      by : (trigger : Option ℕ) → HasTimeIn table b trigger time → divides time
      by None k = text_time_divides b (row_at table.rows b).kind (written_time table.rows b) time refl k
      by (Some e) k = subst divides (sym k) each_tick

pub periods_divide_cycle : PeriodsDivideCycle
periods_divide_cycle table times b are inside =
    let time : Time = slice_index_or times.run b every_tick in
    subst (λ n. time.period ∣ n) (sym are.hyper) (time_divides table b time (are.run b inside))

pub hits_repeat : HitsRepeat
hits_repeat table times b t are inside =
    let time : Time = slice_index_or times.run b every_tick in
    ap (λ n. n == time.offset) (mod-mod_of_dvd time.period t (periods_divide_cycle table times b are inside))

-- ---- Where nothing is wrong the cycle has a tick

module _ (table : RowTable) where
  -- a period that is written has a tick
  abbrev HasTicks : TimeText → Type 0
  HasTicks Inherit = ⊤
  HasTicks Constant = ⊤
  HasTicks (Each period offset) = 0 < ticks table period

  written_ticks : (text : TimeText) (time : Time) → Writes table text time → HasTicks text
  written_ticks Inherit time w = tt
  written_ticks Constant time w = tt
  written_ticks (Each period offset) time w = let below = time.in_period in omega (arith, w.0, below)

  text_positive : (text : TimeText) (so_far : ℕ) (rest : List ℕ) → HasTicks text → 0 < so_far →
      ((n : ℕ) → 0 < n → 0 < fold lcm n rest) → 0 < fold lcm so_far (periods_in table text ++ rest)
  text_positive Inherit so_far rest h k more = more so_far k
  text_positive Constant so_far rest h k more = more so_far k
  text_positive (Each period offset) so_far rest h k more =
      more (lcm so_far (ticks table period)) (lcm_positive so_far (ticks table period) k h)

  all_positive : (rows : List Row) (so_far : ℕ) →
      ((b : ℕ) → b < length rows → HasTicks (written_by (row_at rows b).kind (row_at rows b).time_text)) → 0 < so_far →
      0 < fold lcm so_far (periods table rows)
  all_positive [] so_far h k = k
  all_positive (row ∷ rows) so_far h k =
      text_positive (written_by row.kind row.time_text) so_far (periods table rows) (h 0 (omega arith)) k
      (λ n above. all_positive rows n (λ b inside. h (suc b) (omega (arith, inside))) above)

  timed_ticks : (b : ℕ) (kind : Kind) (text : TimeText) (time : Time) → HasTimeBy table b kind text time → HasTicks text
  timed_ticks b kind Inherit time h = tt
  timed_ticks b kind Constant time h = tt
  timed_ticks b (RateTransition initial out) (Each period offset) time h = written_ticks (Each period offset) h.1 h.3
  timed_ticks b kind (Each period offset) time h = written_ticks (Each period offset) time h

  no_each : (text : TimeText) → is_each text ≡ false → HasTicks text
  no_each Inherit e = tt
  no_each Constant e = tt
  no_each (Each period offset) e = absurd (true≢false e)

  -- a row that has a time, and writes none where it is inside a subsystem with a trigger
  row_ticks : (b : ℕ) (time : Time) → HasTime table b time →
      (is_some (outermost_trigger table.rows b) && is_each (written_time table.rows b)) ≡ false →
      HasTicks (written_time table.rows b)
  row_ticks b time h e = by (outermost_trigger table.rows b) h e
    where
      by : (trigger : Option ℕ) → HasTimeIn table b trigger time →
          (is_some trigger && is_each (written_time table.rows b)) ≡ false → HasTicks (written_time table.rows b)
      by None k e = timed_ticks b (row_at table.rows b).kind (written_time table.rows b) time k
      by (Some s) k e = no_each (written_time table.rows b) e

pub cycles_have_ticks : CyclesHaveTicks
cycles_have_ticks table types ops times resolved =
    let rows = table.rows in
    let test : ℕ → Bool = λ b. is_some (outermost_trigger rows b) && is_each (written_time rows b) in
    let none = none_later (least_line (times_inside rows)) _ (nothing_written table resolved.times_accepted) in
    let outside : (b : ℕ) → b < length rows → test b ≡ false =
    λ b inside. none_pass test (λ k. TimeInside (line_at rows k)) (length rows) 0 b
    (nothing_listed (times_inside rows) none.0) (omega arith) (omega arith) in
    subst (λ n. 0 < n) (sym resolved.are_times.hyper)
    (all_positive table rows 1
    (λ b inside. row_ticks table b (slice_index_or times.run b every_tick) (resolved.are_times.run b inside)
    (outside b inside)) (omega arith))
