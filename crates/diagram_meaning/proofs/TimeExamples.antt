-- Sample times of small tables.
use Rattle.std.specs.Prelude.{◌≡◌, ℕ, suc, ◌%◌, false, List, [], ◌∷◌, map, Contains, None, refl}
use Rattle.std.proofs.Common.{sym, ◌∙◌, ap, subst, arith, lit<, lit≤}
use native.Mathlib.Nat.{one-dvd, dvd_refl, zero-lt-suc}
use Rattle.base_core.specs.declared.Frac.{Frac}
use Rattle.base_core.specs.declared.TimeText.{TimeText}
use Rattle.base_core.specs.declared.TimeText.TheVariants.{Inherit, Each}
use Rattle.base_fixed_point.specs.declared.TypeText.TheVariants.{Inherit as NoType}
use Rattle.diagram_blocks.specs.declared.Kind.{Kind}
use Rattle.diagram_blocks.specs.declared.Kind.TheVariants.{Inport, Outport, Sum, RateTransition}
use Rattle.diagram_meaning.specs.declared.table.Row.{Row}
use Rattle.diagram_meaning.specs.declared.times.Time.{Time}
use Rattle.diagram_meaning.specs.RowTable.{RowTable}
use Rattle.diagram_meaning.specs.SampleTimes.{Finds, here, through, FindsBefore, Includes, IsInferred, IsInputTime, HasTime, Delays, every_tick, ticks, hyperperiod}
use Rattle.diagram_meaning.specs.RunExamples.{how, zero_initial}
use Rattle.diagram_meaning.proofs.lemmas.NeedsExamples.{of_one}
use Rattle.diagram_meaning.proofs.OneTime.{IsInferred-one}

-- 1 / n
abbrev one_over : (n : ℕ) → Frac
one_over n = record { num = 1; den = suc n; lowest = (zero-lt-suc n, (dvd_refl 1, one-dvd (suc n), λ d a b. a)) }

abbrev pub no_time : Frac
no_time = record { num = 0; den = 1; lowest = (lit< tt, (one-dvd 0, dvd_refl 1, λ d a b. b)) }

abbrev timed : Kind → List ℕ → TimeText → Row
timed kind inputs text =
    record {
      place = record { row = 0; line = 0 };
      owner = None;
      kind = kind;
      inputs = inputs;
      type_text = NoType;
      time_text = text;
    }

-- one input each 1/50, one each 1/75 from 1/150 on, and their sum
abbrev two_inputs : RowTable
two_inputs = record {
  rows =
      timed (Inport 1) [] (Each (one_over 49) no_time) ∷ timed (Inport 2) [] (Each (one_over 74) (one_over 149))
      ∷ timed (Sum 2 0 how) (0 ∷ 1 ∷ []) Inherit ∷ timed (Outport 1 false zero_initial) (2 ∷ []) Inherit ∷ [];
  fixed_step = None;
}

-- the base tick is 1/150
pub in_ticks : map (ticks two_inputs) (one_over 49 ∷ one_over 74 ∷ one_over 149 ∷ []) ≡ 3 ∷ 2 ∷ 1 ∷ []
in_ticks = refl

pub cycle : hyperperiod two_inputs ≡ 6
cycle = refl

abbrev third : Time
third = record { period = 3; offset = 0; in_period = lit≤ tt }

abbrev second : Time
second = record { period = 2; offset = 1; in_period = lit≤ tt }

pub first_time : HasTime two_inputs 0 third
first_time = (refl, refl)

pub second_time : HasTime two_inputs 1 second
second_time = (refl, refl)

-- the sum finds both times
finds_third : FindsBefore two_inputs 2 third
finds_third = (0, (0, lit< tt, refl), here (refl, refl))

finds_second : FindsBefore two_inputs 2 second
finds_second = (1, (1, lit< tt, refl), here (refl, refl))

-- and runs at every tick
pub sum_time : HasTime two_inputs 2 every_tick
sum_time = record {
  none = λ no. refl;
  some = λ found f. record {
    includes = λ q k. (omega arith, omega arith);
    smallest = λ other all.
        let p = all third finds_third in
        let q = all second finds_second in
        let zero_is : 0 % other.period ≡ 0 = omega arith in
        (q.1 ∙ sym p.1 ∙ zero_is, p.1);
  };
}

-- ---- Rate transitions

-- n / 1
abbrev pub whole_period : (n : ℕ) → Frac
whole_period n = record { num = suc n; den = 1; lowest = (zero-lt-suc 0, (one-dvd (suc n), dvd_refl 1, λ d a b. b)) }

-- an input at 4, a transition to every tick, and an output; and the other way round
abbrev slow_to_fast : RowTable
slow_to_fast = record {
  rows =
      timed (Inport 1) [] (Each (whole_period 3) no_time)
      ∷ timed (RateTransition zero_initial (Each (whole_period 0) no_time)) (0 ∷ []) Inherit
      ∷ timed (Outport 1 false zero_initial) (1 ∷ []) Inherit ∷ [];
  fixed_step = None;
}

abbrev fast_to_slow : RowTable
fast_to_slow = record {
  rows =
      timed (Inport 1) [] (Each (whole_period 0) no_time)
      ∷ timed (RateTransition zero_initial (Each (whole_period 3) no_time)) (0 ∷ []) Inherit
      ∷ timed (Outport 1 false zero_initial) (1 ∷ []) Inherit ∷ [];
  fixed_step = None;
}

abbrev fourth : Time
fourth = record { period = 4; offset = 0; in_period = lit≤ tt }

-- a search that finds one time alone gives it
one_found : (Found : Time → Type 0) (time : Time) → Found time → Includes time time
    → ((t : Time) → Found t → (time.period ≡ t.period) × (time.offset ≡ t.offset)) → IsInferred Found time
one_found Found time f self same = record {
  none = λ h. absurd (h time f);
  some = λ found g. record {
    includes =
        λ t q. (
          subst (λ p. p % time.period ≡ 0) (same t q).0 self.0,
          subst (λ o. o % time.period ≡ time.offset) (same t q).1 self.1,
        );
    smallest = λ other all. all time f;
  };
}

only_one : (c : ℕ) → Contains (0 ∷ []) c → 0 ≡ c
only_one c h = of_one 0 c h

each-inherits : (period offset : Frac) → (let text : TimeText = Each period offset in text ≡ Inherit) → ⊥
each-inherits period offset e = cc e

finds_fourth : (t : Time) → Finds slow_to_fast 0 t → (4 ≡ t.period) × (0 ≡ t.offset)
finds_fourth t (here w) = (sym w.0, sym w.1)
finds_fourth t (through e c f) = absurd (each-inherits (whole_period 3) no_time e)

before_fourth : (t : Time) → FindsBefore slow_to_fast 1 t → (4 ≡ t.period) × (0 ≡ t.offset)
before_fourth t (c, contained, f) = finds_fourth t (subst (λ b. Finds slow_to_fast b t) (sym (only_one c contained)) f)

slow_input : IsInputTime slow_to_fast 1 fourth
slow_input = one_found (FindsBefore slow_to_fast 1) fourth (0, (0, lit< tt, refl), here (refl, refl)) (refl, refl) before_fourth

-- from slow to fast it delays, and runs with its input
pub slow_to_fast_delays : Delays slow_to_fast 1
slow_to_fast_delays = (refl, (fourth, every_tick, slow_input, (refl, refl), lit< tt))

pub slow_to_fast_time : HasTime slow_to_fast 1 fourth
slow_to_fast_time = (fourth, every_tick, slow_input, (refl, refl), refl)

finds_every : (t : Time) → Finds fast_to_slow 0 t → (1 ≡ t.period) × (0 ≡ t.offset)
finds_every t (here w) = (sym w.0, sym w.1)
finds_every t (through e c f) = absurd (each-inherits (whole_period 0) no_time e)

before_every : (t : Time) → FindsBefore fast_to_slow 1 t → (1 ≡ t.period) × (0 ≡ t.offset)
before_every t (c, contained, f) = finds_every t (subst (λ b. Finds fast_to_slow b t) (sym (only_one c contained)) f)

fast_input : IsInputTime fast_to_slow 1 every_tick
fast_input = one_found (FindsBefore fast_to_slow 1) every_tick (0, (0, lit< tt, refl), here (refl, refl)) (refl, refl) before_every

-- from fast to slow it holds, and runs with its output
pub fast_to_slow_time : HasTime fast_to_slow 1 fourth
fast_to_slow_time = (every_tick, fourth, fast_input, (refl, refl), refl)

pub fast_to_slow_holds : Delays fast_to_slow 1 → ⊥
fast_to_slow_holds (outside, (inside, out, given, written, less)) =
    let same = IsInferred-one (FindsBefore fast_to_slow 1) inside every_tick given fast_input in
    let one : inside.period ≡ 1 = ap (λ (t : Time). t.period) same in
    let four = written.0 in
    omega (arith, one, four, less)
