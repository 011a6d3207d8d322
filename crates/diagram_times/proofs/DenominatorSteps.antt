-- Denominators of written times, row by row.
use Rattle.std.proofs.Common.{◌≡◌, refl, sym, ◌∙◌, ap, ℕ, Bool, true, false, List, [], ◌∷◌, ◌++◌, ◌^◌, map, Option, None, Some, true-eqb, eq-eqb}
use Rattle.std.specs.Prelude.{flat_map, fold, ◌==◌, if◌then◌else◌}
use Rattle.std.specs.Option.{option_map_or}
use Rattle.std.proofs.lemmas.List.{map-append}
use Rattle.base_core.specs.declared.Frac.{Frac}
use Rattle.base_refusals.specs.declared.refusal.CycleWhat.TheVariants.{Denominator}
use Rattle.base_core.specs.declared.TimeText.{TimeText}
use Rattle.base_core.specs.declared.TimeText.TheVariants.{Inherit, Constant, Each}
use Rattle.base_core.specs.Numbers.{lcm}
use Rattle.diagram_meaning.specs.declared.table.Row.{Row}
use Rattle.diagram_meaning.specs.RowTable.{RowTable}
use Rattle.diagram_meaning.specs.SampleTimes.{written_by, fractions_in, step_in, fractions, common_denominator}
use Rattle.diagram_meaning.specs.TimeRefusals.{AtLine, denominators_in, first_over, long_denominator}
use Rattle.diagram_times.proofs.BaseSteps.{written_fractions}
use Rattle.diagram_times.proofs.Divisors.{lcm-first}
use Rattle.diagram_times.proofs.Growing.{too_long}
use Rattle.diagram_times.proofs.LineNumbers.{of_rows, by_line-rows, numbers-rows}

-- the denominator of a fraction
abbrev den_of : Frac → ℕ
den_of f = f.den

-- the denominator of the written step, 1 where there is none
abbrev pub step_den : Option Frac → ℕ
step_den step = option_map_or (λ (f : Frac). f.den) step 1

-- a period whose offset is 0, one whose offset is not, and a text that writes none
pub denominators-one : (period offset : Frac) → offset.num ≡ 0 → denominators_in (Each period offset) ≡ period.den ∷ []
denominators-one period offset e = ap (λ (r : Bool). map den_of (period ∷ (if r then [] else offset ∷ []))) (eq-eqb offset.num 0 e)

pub denominators-two : (period offset : Frac) → (offset.num ≡ 0 → ⊥) → denominators_in (Each period offset) ≡ period.den ∷ offset.den ∷ []
denominators-two period offset apart = by (offset.num == 0) refl
  where
    by : (r : Bool) → (offset.num == 0) ≡ r → map den_of (period ∷ (if r then [] else offset ∷ [])) ≡ period.den ∷ offset.den ∷ []
    by true e = absurd (apart (true-eqb offset.num 0 (sym e)))
    by false e = refl

pub denominators-none : (text : TimeText) → ((period offset : Frac) → text ≡ Each period offset → ⊥) → denominators_in text ≡ []
denominators-none Inherit none = refl
denominators-none Constant none = refl
denominators-none (Each period offset) none = absurd (none period offset refl)

-- whatever the offset, the period's denominator is the first
pub denominators-first : (period offset : Frac) → (more : List ℕ) × (denominators_in (Each period offset) ≡ period.den ∷ more)
denominators-first period offset = (map den_of (if offset.num == 0 then [] else offset ∷ []), refl)

-- ---- All of them

of_fractions : (rows : List Row) → flat_map (λ (row : Row). denominators_in (written_by row.kind row.time_text)) rows
    ≡ map den_of (written_fractions rows)
of_fractions [] = refl
of_fractions (row ∷ rows) =
    ap (λ ns. denominators_in (written_by row.kind row.time_text) ++ ns) (of_fractions rows)
    ∙ sym (map-append den_of (fractions_in (written_by row.kind row.time_text)) (written_fractions rows))

with_step : (step : Option Frac) (fs : List Frac) → fold lcm (step_den step) (map den_of fs) ≡ common_denominator (step_in step ++ fs)
with_step None fs = refl
with_step (Some step) fs = ap (λ n. fold lcm n (map den_of fs)) (sym (lcm-first step.den))

pub common_denominator-is : (table : RowTable) (rows : List Row) (step : Option Frac) → table.rows ≡ rows → table.fixed_step ≡ step →
    fold lcm (step_den step) (map (λ (a : AtLine). a.number) (of_rows denominators_in rows)) ≡ common_denominator (fractions table)
common_denominator-is table rows step same is_step =
    ap (fold lcm (step_den step)) (numbers-rows denominators_in rows ∙ of_fractions rows)
    ∙ with_step step (written_fractions rows)
    ∙ ap (λ rows. common_denominator (step_in step ++ written_fractions rows)) (sym same)
    ∙ ap (λ step. common_denominator (step_in step ++ written_fractions table.rows)) (sym is_step)

pub long_denominator-is : (table : RowTable) (rows : List Row) (step : Option Frac) → table.rows ≡ rows → table.fixed_step ≡ step →
    long_denominator table ≡ too_long Denominator (first_over (10 ^ 9) (step_den step) (of_rows denominators_in rows))
long_denominator-is table rows step same is_step =
    ap (λ all. too_long Denominator (first_over (10 ^ 9) (step_den table.fixed_step) all))
    (by_line-rows denominators_in table.rows ∙ ap (of_rows denominators_in) same)
    ∙ ap (λ step. too_long Denominator (first_over (10 ^ 9) (step_den step) (of_rows denominators_in rows))) is_step
