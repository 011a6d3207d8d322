-- The outermost subsystem with a trigger around a row, found from the innermost one outward.
use Rattle.std.proofs.Common.{◌≡◌, refl, ℕ, zero, suc, ◌-◌, ◌<◌, Bool, true, false, cond, List, ◌∷◌, filter, Option, None, Some, ap, ◌∙◌, arith}
use Rattle.std.specs.List.{last_or}
use Rattle.diagram_meaning.specs.declared.table.Row.{Row}
use Rattle.diagram_meaning.specs.Rows.{row_at, control_at, is_triggered, outward}

-- the last subsystem with a trigger among those outward from a system, at most so many, or else one that was found before
abbrev pub last_trigger : List Row → Option ℕ → ℕ → Option ℕ → Option ℕ
last_trigger rows found left outer = last_or found (filter (λ e. is_triggered (control_at rows e)) (outward rows None left outer))

pub outward-ends : (rows : List Row) (found : Option ℕ) (left : ℕ) → last_trigger rows found left None ≡ found
outward-ends rows found zero = refl
outward-ends rows found (suc left) = refl

one-more : (found : Option ℕ) (e : ℕ) (r : Bool) (rest : List ℕ) →
    last_or found (cond r (e ∷ rest) rest) ≡ last_or (cond r (Some e) found) rest
one-more found e true rest = refl
one-more found e false rest = refl

pub outward-step : (rows : List Row) (found : Option ℕ) (left e : ℕ) → 0 < left →
    last_trigger rows found left (Some e) ≡ last_trigger rows (cond (is_triggered (control_at rows e)) (Some e) found)
    (left - 1) (row_at rows e).owner
outward-step rows found zero e h = absurd (omega arith)
outward-step rows found (suc left) e h =
    one-more found e (is_triggered (control_at rows e)) _
    ∙ ap (λ n. last_trigger rows (cond (is_triggered (control_at rows e)) (Some e) found) n (row_at rows e).owner)
    (let q : left ≡ suc left - 1 = omega arith in q)
