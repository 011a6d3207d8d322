-- Written periods in base ticks, row by row.
use Rattle.std.proofs.Common.{◌≡◌, refl, sym, ◌∙◌, ap, ap₂, ℕ, ◌/◌, ◌<◌, ◌≤◌, Bool, List, [], ◌∷◌, map, Some}
use Rattle.std.specs.Prelude.{fold, find, nat_lt, if◌then◌else◌}
use Rattle.std.proofs.lemmas.Bool.{lt-ltb, le-ltb}
use Rattle.base_core.specs.declared.Frac.{Frac}
use Rattle.base_core.specs.declared.TimeText.{TimeText}
use Rattle.base_core.specs.declared.TimeText.TheVariants.{Inherit, Constant, Each}
use Rattle.base_core.specs.Numbers.{lcm}
use Rattle.diagram_meaning.specs.declared.table.Row.{Row}
use Rattle.diagram_meaning.specs.RowTable.{RowTable}
use Rattle.diagram_meaning.specs.SampleTimes.{numerator_over, periods_in, hyperperiod}
use Rattle.diagram_meaning.specs.TimeRefusals.{AtLine, by_line}
use Rattle.diagram_times.specs.declared.base.BaseTick.{BaseTick}
use Rattle.diagram_times.specs.Bases.{IsBaseOf, ticks_of}
use Rattle.diagram_times.proofs.LineNumbers.{of_rows, by_line-rows, numbers-rows, same-rows}

-- the period that a text writes, in ticks of this base
abbrev pub periods_by : BaseTick → TimeText → List ℕ
periods_by base Inherit = []
periods_by base Constant = []
periods_by base (Each period offset) = ticks_of base period ∷ []

periods-same : (table : RowTable) (base : BaseTick) → IsBaseOf table base → (text : TimeText) → periods_by base text ≡ periods_in table text
periods-same table base is Inherit = refl
periods-same table base is Constant = refl
periods-same table base is (Each period offset) = ap₂ (λ d n. (numerator_over d period / n) ∷ []) is.denominator is.numerator

pub by_line-periods : (table : RowTable) (rows : List Row) (base : BaseTick) → table.rows ≡ rows → IsBaseOf table base →
    by_line table.rows (periods_in table) ≡ of_rows (periods_by base) rows
by_line-periods table rows base same is =
    by_line-rows (periods_in table) table.rows
    ∙ sym (same-rows (periods_by base) (periods_in table) (periods-same table base is) table.rows)
    ∙ ap (of_rows (periods_by base)) same

pub hyperperiod-is : (table : RowTable) (rows : List Row) (base : BaseTick) → table.rows ≡ rows → IsBaseOf table base →
    fold lcm 1 (map (λ (a : AtLine). a.number) (of_rows (periods_by base) rows)) ≡ hyperperiod table
hyperperiod-is table rows base same is =
    ap (λ left. fold lcm 1 (map (λ (a : AtLine). a.number) left)) (sym (by_line-periods table rows base same is)
    ∙ by_line-rows (periods_in table) table.rows)
    ∙ ap (fold lcm 1) (numbers-rows (periods_in table) table.rows)

-- whether a period is above a million ticks
abbrev pub is_long : AtLine → Bool
is_long p = nat_lt 1_000_000 p.number

pub short-passed : (line number : ℕ) (left : List AtLine) → number ≤ 1_000_000 →
    find is_long (record { line = line; number = number } ∷ left) ≡ find is_long left
short-passed line number left short =
    ap (λ (r : Bool). if r then Some (record { line = line; number = number }) else find is_long left) (le-ltb 1_000_000 number short)

pub long-found : (line number : ℕ) (left : List AtLine) → 1_000_000 < number →
    find is_long (record { line = line; number = number } ∷ left) ≡ Some (record { line = line; number = number })
long-found line number left long =
    ap (λ (r : Bool). if r then Some (record { line = line; number = number }) else find is_long left) (lt-ltb 1_000_000 number long)

-- a text that writes no period
pub periods-none : (base : BaseTick) (text : TimeText) → ((period offset : Frac) → text ≡ Each period offset → ⊥) →
    periods_by base text ≡ []
periods-none base Inherit none = refl
periods-none base Constant none = refl
periods-none base (Each period offset) none = absurd (none period offset refl)
