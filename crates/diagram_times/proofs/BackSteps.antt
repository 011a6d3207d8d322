-- Passes over the rows from the last one back to the first.
use Rattle.std.proofs.Common.{◌≡◌, refl, ℕ, suc, ◌+◌, ◌-◌, ◌<◌, ◌≤◌, Bool, true, false, List, [], ◌∷◌, ◌++◌, length, map, filter, Option, None, Some, sym, ap, ap₂, ◌∙◌, arith}
use Rattle.std.specs.Prelude.{flat_map, if◌then◌else◌}
use Rattle.std.specs.List.{range_with_len}
use Rattle.base_core.specs.declared.TimeText.{TimeText}
use Rattle.base_core.specs.declared.TimeText.TheVariants.{Inherit, Constant, Each}
use Rattle.base_refusals.specs.Refusals.{PlainRefusal, RateRatio}
use Rattle.diagram_blocks.specs.declared.Kind.{Kind}
use Rattle.diagram_blocks.specs.declared.Kind.TheVariants.{RateTransition}
use Rattle.diagram_meaning.specs.declared.times.Time.{Time}
use Rattle.base_refusals.specs.FirstRefusal.{earlier_of, least_line, found_where}
use Rattle.diagram_meaning.specs.RowTable.{RowTable}
use Rattle.diagram_meaning.specs.SampleTimes.{ticks}
use Rattle.diagram_meaning.specs.TimeRefusals.{are_related, ratio_faults, rate_faults}

-- the first of at most one refusal and others
one-or-none : (xs ys : List PlainRefusal) → length xs ≤ 1 → least_line (xs ++ ys) ≡ earlier_of (least_line xs) (least_line ys)
one-or-none [] ys h = refl
one-or-none (x ∷ []) ys h = refl
one-or-none (x ∷ y ∷ xs) ys h = absurd (omega arith)

-- the rows from b on
rows-from : (n b : ℕ) → b < n → range_with_len b (n - b) ≡ b ∷ range_with_len (b + 1) (n - (b + 1))
rows-from n b h = ap (range_with_len b) (let e : n - b ≡ suc (n - (b + 1)) = omega arith in e)

-- one row more, before those that were looked at
pub back-more : (f : ℕ → List PlainRefusal) (n b m : ℕ) (found least later : Option PlainRefusal) → m ≡ b + 1 → b < n →
    length (f b) ≤ 1 → found ≡ least_line (f b) →
    least ≡ least_line (flat_map f (range_with_len m (n - m))) → later ≡ earlier_of found least →
    later ≡ least_line (flat_map f (range_with_len b (n - b)))
back-more f n b m found least later next inside short e rest step =
    step ∙ ap₂ earlier_of e (rest ∙ ap (λ k. least_line (flat_map f (range_with_len k (n - k)))) next)
    ∙ sym (one-or-none (f b) (flat_map f (range_with_len (b + 1) (n - (b + 1)))) short)
    ∙ ap (λ xs. least_line (flat_map f xs)) (sym (rows-from n b inside))

-- all are looked at
pub back-end : (f : ℕ → List PlainRefusal) (n b : ℕ) (least : Option PlainRefusal) → b ≤ 0 →
    least ≡ least_line (flat_map f (range_with_len b (n - b))) →
    least ≡ least_line (flat_map f (range_with_len 0 n))
back-end f n b least none e =
    e ∙ ap₂ (λ k m. least_line (flat_map f (range_with_len k m))) (let q : b ≡ 0 = omega arith in q) (let q : n - b ≡ n = omega arith in q)

-- the refusal of an item that passes a test, as a list
abbrev pub listed_where : (ℕ → Bool) → (ℕ → PlainRefusal) → ℕ → List PlainRefusal
listed_where test refusal b = if test b then refusal b ∷ [] else []

pub listed-short : (test : ℕ → Bool) (refusal : ℕ → PlainRefusal) (b : ℕ) → length (listed_where test refusal b) ≤ 1
listed-short test refusal b = by (test b)
  where
    by : (r : Bool) → length (if r then refusal b ∷ [] else []) ≤ 1
    by true = omega arith
    by false = omega arith

pub found-listed : (test : ℕ → Bool) (refusal : ℕ → PlainRefusal) (b : ℕ) →
    found_where test refusal b ≡ least_line (listed_where test refusal b)
found-listed test refusal b = by (test b)
  where
    by : (r : Bool) → (if r then Some (refusal b) else None) ≡ least_line (if r then refusal b ∷ [] else [])
    by true = refl
    by false = refl

pub listed-all : (test : ℕ → Bool) (refusal : ℕ → PlainRefusal) (xs : List ℕ) →
    flat_map (listed_where test refusal) xs ≡ map refusal (filter test xs)
listed-all test refusal [] = refl
listed-all test refusal (x ∷ xs) = by (test x) (listed-all test refusal xs)
  where
    by : (r : Bool) → flat_map (listed_where test refusal) xs ≡ map refusal (filter test xs) →
        (if r then refusal x ∷ [] else []) ++ flat_map (listed_where test refusal) xs
        ≡ map refusal (if r then x ∷ filter test xs else filter test xs)
    by true e = ap (λ l. refusal x ∷ l) e
    by false e = e

-- ---- A rate transition

pub ratio-short : (table : RowTable) (line : ℕ) (inside : Time) (text : TimeText) → length (ratio_faults table line inside text) ≤ 1
ratio-short table line inside Inherit = omega arith
ratio-short table line inside Constant = omega arith
ratio-short table line inside (Each period offset) = by (are_related inside (ticks table period) (ticks table offset))
  where
    by : (r : Bool) → length (if r then [] else RateRatio line inside.period (ticks table period) ∷ []) ≤ 1
    by true = omega arith
    by false = omega arith

pub rate-short : (table : RowTable) (line : ℕ) (inside : Time) (kind : Kind) → length (rate_faults table line inside kind) ≤ 1
rate-short table line inside (RateTransition initial out) = ratio-short table line inside out
rate-short table line inside _ = omega arith
