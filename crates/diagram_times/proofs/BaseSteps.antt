-- The base tick: the greatest common divisor of all numerators, row by row.
use Rattle.std.proofs.Common.{◌≡◌, refl, sym, ◌∙◌, ap, ℕ, ◌+◌, ◌<◌, ◌≤◌, List, [], ◌∷◌, ◌++◌, map, drop, length, Option}
use Rattle.std.specs.Prelude.{flat_map, fold}
use Rattle.std.proofs.lemmas.List.{drop_more, drop_all}
use Rattle.base_core.specs.declared.Frac.{Frac}
use Rattle.base_core.specs.declared.TimeText.{TimeText}
use Rattle.base_core.specs.Numbers.{gcd}
use Rattle.diagram_meaning.specs.declared.table.Row.{Row}
use Rattle.diagram_meaning.specs.RowTable.{RowTable}
use Rattle.diagram_meaning.specs.Rows.{row_at, no_row}
use Rattle.diagram_meaning.specs.SampleTimes.{written_by, fractions_in, step_in, numerator_over, fractions, common_denominator, base_numerator}
use Rattle.diagram_times.proofs.Divisors.{gcd-first}

-- all fractions that rows write
abbrev pub written_fractions : List Row → List Frac
written_fractions rows = flat_map (λ (row : Row). fractions_in (written_by row.kind row.time_text)) rows

-- the greatest common divisor of a number and of the numerators over a denominator
abbrev pub gcd_over : ℕ → ℕ → List Frac → ℕ
gcd_over denominator n fs = fold gcd n (map (numerator_over denominator) fs)

pub gcd-step : (denominator : ℕ) (step : Frac) (fs : List Frac) →
    gcd_over denominator (numerator_over denominator step) fs ≡ gcd_over denominator 0 (step ∷ fs)
gcd-step denominator step fs = ap (λ n. gcd_over denominator n fs) (sym (gcd-first (numerator_over denominator step)))

gcd-parts : (denominator n : ℕ) (fs gs : List Frac) →
    gcd_over denominator n (fs ++ gs) ≡ gcd_over denominator (gcd_over denominator n fs) gs
gcd-parts denominator n [] gs = refl
gcd-parts denominator n (f ∷ fs) gs = gcd-parts denominator (gcd n (numerator_over denominator f)) fs gs

-- one row of those that are left
pub gcd-more : (denominator n refined : ℕ) (rows : List Row) (i : ℕ) (row : Row) (text : TimeText) → i < length rows → row ≡ row_at rows i →
    text ≡ written_by row.kind row.time_text → refined ≡ gcd_over denominator n (fractions_in text) →
    gcd_over denominator refined (written_fractions (drop (i + 1) rows)) ≡ gcd_over denominator n (written_fractions (drop i rows))
gcd-more denominator n refined rows i row text below read writes e =
    let left = written_fractions (drop (i + 1) rows) in
    ap (λ n. gcd_over denominator n left) e
    ∙ sym (gcd-parts denominator n (fractions_in text) left)
    ∙ ap (λ text. gcd_over denominator n (fractions_in text ++ left)) writes
    ∙ ap (λ (row : Row). gcd_over denominator n (fractions_in (written_by row.kind row.time_text) ++ left)) read
    ∙ ap (λ rows. gcd_over denominator n (written_fractions rows)) (sym (drop_more rows i no_row below))

-- none are left
pub gcd-end : (denominator n : ℕ) (rows : List Row) (step : Option Frac) (i : ℕ) → length rows ≤ i →
    gcd_over denominator n (written_fractions (drop i rows)) ≡ gcd_over denominator 0 (step_in step ++ written_fractions rows) →
    (table : RowTable) → table.rows ≡ rows → table.fixed_step ≡ step → denominator ≡ common_denominator (fractions table) →
    n ≡ base_numerator (fractions table)
gcd-end denominator n rows step i end e table is_rows is_step is =
    ap (λ rows. gcd_over denominator n (written_fractions rows)) (sym (drop_all i rows end))
    ∙ e
    ∙ ap (λ rows. gcd_over denominator 0 (step_in step ++ written_fractions rows)) (sym is_rows)
    ∙ ap (λ step. gcd_over denominator 0 (step_in step ++ written_fractions table.rows)) (sym is_step)
    ∙ ap (λ d. gcd_over d 0 (fractions table)) is
