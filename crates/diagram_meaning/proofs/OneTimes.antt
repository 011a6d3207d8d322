-- A table has at most one set of sample times, and at most one first refusal for them.
use Rattle.std.specs.Prelude.{◌≡◌, ℕ, suc, ◌<◌, Bool, true, false, ◌↔◌, List, [], ◌∷◌, length, slice_index_or, Option, Some, None, MatchOption}
use Rattle.std.proofs.Common.{refl, sym, ◌∙◌, ap, ap₂, subst, arith}
use Rattle.base_refusals.specs.Refusals.{PlainRefusal}
use Rattle.diagram_meaning.specs.declared.times.Time.{Time}
use Rattle.diagram_meaning.specs.SampleTimes.{every_tick, FindsBefore, Delays}
use Rattle.diagram_meaning.specs.TimeRefusals.{AreInputTimes, rate_refusal, written_time_refusal}
use Rattle.diagram_meaning.specs.TimeLaws.{TimesAreOne, InputTimesAreOne, TimeRefusalIsOne}
use Rattle.diagram_meaning.proofs.OneTime.{IsInferred-one, HasTime-one}

-- two lists with the same items in the same places
same-at : {A : Type 0} (xs ys : List A) (z : A) → length xs ≡ length ys →
    ((b : ℕ) → b < length xs → slice_index_or xs b z ≡ slice_index_or ys b z) → xs ≡ ys
same-at [] [] z e h = refl
same-at [] (y ∷ ys) z e h = absurd (omega (arith, e))
same-at (x ∷ xs) [] z e h = absurd (omega (arith, e))
same-at (x ∷ xs) (y ∷ ys) z e h =
    ap₂ ◌∷◌ (h 0 (omega arith)) (same-at xs ys z (omega (arith, e)) (λ b below. h (suc b) (omega (arith, below))))

-- two answers to one question
same-answer : {P : Type 0} (a b : Bool) → (a ≡ true) ↔ P → (b ≡ true) ↔ P → a ≡ b
same-answer true true h g = refl
same-answer true false h g = sym (g.1 (h.0 refl))
same-answer false true h g = h.1 (g.0 refl)
same-answer false false h g = refl

pub times_are_one : TimesAreOne
times_are_one table times others are also =
    let run : times.run ≡ others.run =
    same-at times.run others.run every_tick (are.run_length ∙ sym also.run_length)
    (λ b below. let inside = subst (λ n. b < n) are.run_length below in HasTime-one table b _ _ (are.run b inside) (also.run b inside)) in
    let delays : times.delays ≡ others.delays =
    same-at times.delays others.delays false (are.delays_length ∙ sym also.delays_length)
    (λ b below.
    let inside = subst (λ n. b < n) are.delays_length below in
    same-answer {P = Delays table b} _ _ (are.delays b inside) (also.delays b inside)) in
    let hyper : times.hyper ≡ others.hyper = are.hyper ∙ sym also.hyper in
    λ i. record { run = run i; delays = delays i; hyper = hyper i }

pub input_times_are_one : InputTimesAreOne
input_times_are_one table inside others are also =
    same-at inside others every_tick (are.one_each ∙ sym also.one_each)
    (λ b below.
    let in_table = subst (λ n. b < n) are.one_each below in
    IsInferred-one (FindsBefore table b) _ _ (are.are_input_times b in_table) (also.are_input_times b in_table))

pub time_refusal_is_one : TimeRefusalIsOne
time_refusal_is_one table found other is also = by (written_time_refusal table) is also
  where
    by : (written : Option PlainRefusal) →
        MatchOption written ((inside : List Time) × AreInputTimes table inside × (found ≡ rate_refusal table inside))
        (λ refusal. found ≡ Some refusal) →
        MatchOption written ((inside : List Time) × AreInputTimes table inside × (other ≡ rate_refusal table inside))
        (λ refusal. other ≡ Some refusal) → found ≡ other
    by None h k = h.2 ∙ ap (rate_refusal table) (input_times_are_one table h.0 k.0 h.1 k.1) ∙ sym k.2
    by (Some refusal) h k = h ∙ sym k
