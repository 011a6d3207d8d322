-- In a table that a model file can have, each offset that a row writes is below its period in base ticks too.
use Rattle.std.specs.Prelude.{◌≡◌, ℕ, zero, suc, ◌*◌, ◌/◌, ◌<◌, Bool, true, false, ◌==◌, if◌then◌else◌, List, [], ◌∷◌, ◌++◌, map, flat_map, fold, length, ◌⊎◌}
use Rattle.std.specs.Int.{◌∣◌}
use Rattle.std.proofs.Common.{refl, sym, ◌∙◌, ap, subst, arith, inl, inr}
use Rattle.std.proofs.Math.Nat.{div-mul_cancel, div-lt_iff_lt-mul, lt_of_mul-lt-mul_left, mul-lt-mul_of_pos_left}
use Rattle.std.proofs.lemmas.Nat.Gcd.{dvd_refl, dvd_trans}
use native.Mathlib.Nat.{one-dvd, pos_of_dvd_of_pos}
use Rattle.base_core.specs.declared.Frac.{Frac}
use Rattle.base_core.specs.declared.TimeText.{TimeText}
use Rattle.base_core.specs.declared.TimeText.TheVariants.{Inherit, Constant, Each}
use Rattle.base_core.specs.Numbers.{gcd, lcm}
use Rattle.diagram_blocks.specs.declared.Kind.{Kind}
use Rattle.diagram_blocks.specs.declared.Kind.TheVariants.{SubSystem, Constant as ConstantBlock, Ground, Terminator, RateTransition, EnablePort, TriggerPort}
use Rattle.diagram_meaning.specs.declared.table.Row.{Row}
use Rattle.diagram_meaning.specs.RowTable.{RowTable}
use Rattle.diagram_meaning.specs.Rows.{row_at, no_row}
use Rattle.diagram_meaning.specs.SampleTimes.{written_time, fractions, fractions_in, step_in, common_denominator, numerator_over, base_numerator, ticks, written_by}
use Rattle.diagram_meaning.specs.WellFormed.{IsTime, IsInheritedOrEach, IsAnyTime, IsKind, IsTimeTextOf, IsRow, IsWellFormed}
use Rattle.diagram_meaning.specs.TimeLaws.{IsBelow, TablesHaveTimes}
use Rattle.diagram_meaning.proofs.PeriodLaws.{divides_left, divides_right, lcm_positive}
use Rattle.diagram_meaning.proofs.Progressions.{gcd-is}
use Rattle.diagram_meaning.proofs.lemmas.Resolving.{all-at}
use Rattle.diagram_meaning.proofs.TableTimes.{table_times}
use Rattle.diagram_meaning.proofs.lemmas.Tests.{eq-from}

-- ---- Numbers that come from all of a list

abbrev Member : {X : Type 0} → X → List X → Type 0
Member x [] = ⊥
Member x (y ∷ ys) = (x ≡ y) ⊎ Member x ys

member-left : {X : Type 0} (x : X) (xs ys : List X) → Member x xs → Member x (xs ++ ys)
member-left x [] ys h = absurd h
member-left x (y ∷ xs) ys (inl e) = inl e
member-left x (y ∷ xs) ys (inr more) = inr (member-left x xs ys more)

member-right : {X : Type 0} (x : X) (xs ys : List X) → Member x ys → Member x (xs ++ ys)
member-right x [] ys h = h
member-right x (y ∷ xs) ys h = inr (member-right x xs ys h)

lcm-keeps : (f : Frac → ℕ) (k so_far : ℕ) (fs : List Frac) → k ∣ so_far → k ∣ fold lcm so_far (map f fs)
lcm-keeps f k so_far [] h = h
lcm-keeps f k so_far (x ∷ fs) h = lcm-keeps f k (lcm so_far (f x)) fs (dvd_trans k h (divides_left so_far (f x)))

lcm-member : (f : Frac → ℕ) (so_far : ℕ) (x : Frac) (fs : List Frac) → Member x fs → f x ∣ fold lcm so_far (map f fs)
lcm-member f so_far x [] h = absurd h
lcm-member f so_far x (y ∷ fs) (inl e) = lcm-keeps f (f x) (lcm so_far (f y)) fs
    (subst (λ z. f z ∣ lcm so_far (f y)) (sym e) (divides_right so_far (f y)))
lcm-member f so_far x (y ∷ fs) (inr more) = lcm-member f (lcm so_far (f y)) x fs more

dens-positive : (so_far : ℕ) (fs : List Frac) → 0 < so_far → 0 < fold lcm so_far (map (λ (f : Frac). f.den) fs)
dens-positive so_far [] h = h
dens-positive so_far (f ∷ fs) h = dens-positive (lcm so_far f.den) fs (lcm_positive so_far f.den h f.lowest.0)

gcd-keeps : (f : Frac → ℕ) (so_far : ℕ) (fs : List Frac) → fold gcd so_far (map f fs) ∣ so_far
gcd-keeps f so_far [] = dvd_refl so_far
gcd-keeps f so_far (x ∷ fs) = dvd_trans _ (gcd-keeps f (gcd so_far (f x)) fs) (gcd-is so_far (f x)).0

gcd-member : (f : Frac → ℕ) (so_far : ℕ) (x : Frac) (fs : List Frac) → Member x fs → fold gcd so_far (map f fs) ∣ f x
gcd-member f so_far x [] h = absurd h
gcd-member f so_far x (y ∷ fs) (inl e) = dvd_trans _ (gcd-keeps f (gcd so_far (f y)) fs)
    (subst (λ z. gcd so_far (f y) ∣ f z) (sym e) (gcd-is so_far (f y)).1)
gcd-member f so_far x (y ∷ fs) (inr more) = gcd-member f (gcd so_far (f y)) x fs more

-- ---- One written time

-- a fraction that is less is so over a common denominator
less-over : (n d m e common : ℕ) → 0 < d → 0 < e → 0 < common → d ∣ common → e ∣ common → n * e < m * d →
    n * (common / d) < m * (common / e)
less-over n d m e common above_d above_e above by_d by_e less =
    let x = common / d in
    let y = common / e in
    let left = ap (λ c. c * (n * e)) (div-mul_cancel d by_d) in
    let right = ap (λ c. c * (m * d)) (div-mul_cancel e by_e) in
    let more : common * (n * e) < common * (m * d) = mul-lt-mul_of_pos_left less above in
    lt_of_mul-lt-mul_left (d * e) {m = n * x} {n = m * y} (omega (arith, left, right, more))

-- and 0 is less than each that is above it
zero-over : (m e common : ℕ) → 0 < e → 0 < common → e ∣ common → 0 < m → 0 < m * (common / e)
zero-over m e common above_e above by_e positive =
    let least : 0 < 1 = omega arith in
    let less : 0 * e < m * 1 = omega (arith, positive) in
    let over = less-over 0 1 m e common least above_e above (one-dvd common) by_e less in
    omega (arith, over)

-- numbers divided by a divisor of the greater
less-divided : (n m base : ℕ) → base ∣ m → n < m → n / base < m / base
less-divided n m base divides less =
    let above : 0 < base = pos_of_dvd_of_pos divides (omega (arith, less)) in
    (div-lt_iff_lt-mul above).1 (subst (λ k. n < k) (sym (div-mul_cancel base divides)) less)

module _ (table : RowTable) (period offset : Frac) (is : IsTime period offset) (written : Member period (fractions table))
    (offset_written : (offset.num ≡ 0) ⊎ Member offset (fractions table)) where
  abbrev common : ℕ
  common = common_denominator (fractions table)

  above : 0 < common
  above = dens-positive 1 (fractions table) (omega arith)

  period_divides : period.den ∣ common
  period_divides = lcm-member (λ (f : Frac). f.den) 1 period (fractions table) written

  numerators : numerator_over common offset < numerator_over common period
  numerators = elim offset_written [
    | inl nothing ↦
        let over = zero-over period.num period.den common period.lowest.0 above period_divides is.period_limits.0 in
        let none : offset.num * (common / offset.den) ≡ 0 = ap (λ n. n * (common / offset.den)) nothing ∙ omega arith in
        omega (arith, over, none)
    | inr member ↦
        less-over offset.num offset.den period.num period.den common offset.lowest.0 period.lowest.0 above
        (lcm-member (λ (f : Frac). f.den) 1 offset (fractions table) member) period_divides is.below
  ]

  in_ticks : ticks table offset < ticks table period
  in_ticks =
      less-divided (numerator_over common offset) (numerator_over common period) (base_numerator (fractions table))
      (gcd-member (numerator_over common) 0 period (fractions table) written) numerators

-- ---- The rows

no-each : (period offset : Frac) → (let text : TimeText = Inherit in text ≡ Each period offset) → ⊥
no-each period offset e = cc e

constant-each : (period offset : Frac) → (let text : TimeText = Constant in text ≡ Each period offset) → ⊥
constant-each period offset e = cc e

-- a lawful row that writes a period writes a lawful time
written-is : (kind : Kind) (own : TimeText) (period offset : Frac) → IsKind kind → IsTimeTextOf kind own →
    written_by kind own ≡ Each period offset → IsTime period offset
written-is (SubSystem control) own period offset k h e = absurd (no-each period offset (sym h ∙ e))
written-is (ConstantBlock value) own period offset k h e = subst IsAnyTime e h
written-is Ground own period offset k h e = absurd (constant-each period offset e)
written-is Terminator own period offset k h e = absurd (no-each period offset (sym h ∙ e))
written-is (RateTransition initial out) own period offset k h e = subst IsInheritedOrEach e k
written-is EnablePort own period offset k h e = absurd (no-each period offset (sym h ∙ e))
written-is TriggerPort own period offset k h e = absurd (no-each period offset (sym h ∙ e))
written-is _ own period offset k h e = subst IsInheritedOrEach e h

-- what a text writes is among the fractions of its row
period-member : (period offset : Frac) → Member period (fractions_in (Each period offset))
period-member period offset = inl refl

offset-member : (period offset : Frac) → (offset.num ≡ 0) ⊎ Member offset (fractions_in (Each period offset))
offset-member period offset = by (offset.num == 0) refl
  where
    by : (none : Bool) → (offset.num == 0) ≡ none → (offset.num ≡ 0) ⊎ Member offset (period ∷ (if none then [] else offset ∷ []))
    by true e = inl (eq-from offset.num 0 e)
    by false e = inr (inr (inl refl))

-- and so among those of the table
row-member : (f : Frac) (rows : List Row) (b : ℕ) → b < length rows →
    Member f (fractions_in (written_by (row_at rows b).kind (row_at rows b).time_text)) →
    Member f (flat_map (λ (row : Row). fractions_in (written_by row.kind row.time_text)) rows)
row-member f [] b inside h = absurd (omega arith)
row-member f (row ∷ rows) zero inside h = member-left f (fractions_in (written_by row.kind row.time_text)) _ h
row-member f (row ∷ rows) (suc b) inside h = member-right f (fractions_in (written_by row.kind row.time_text)) _
    (row-member f rows b (omega (arith, inside)) h)

module _ (table : RowTable) (formed : IsWellFormed table) (b : ℕ) (inside : b < length table.rows) where
  in_fractions : (f : Frac) (text : TimeText) → written_time table.rows b ≡ text → Member f (fractions_in text) → Member f (fractions table)
  in_fractions f text e h = member-right f (step_in table.fixed_step) _
      (row-member f table.rows b inside (subst (λ text. Member f (fractions_in text)) (sym e) h))

  below-by : (text : TimeText) → written_time table.rows b ≡ text → IsBelow table text
  below-by Inherit e = tt
  below-by Constant e = tt
  below-by (Each period offset) e =
      let row : IsRow (row_at table.rows b) = all-at IsRow table.rows b no_row formed.each inside in
      in_ticks table period offset (written-is (row_at table.rows b).kind (row_at table.rows b).time_text period offset row.kind row.time e)
      (in_fractions period (Each period offset) e (period-member period offset))
      (elim (offset-member period offset) [
        | inl nothing ↦ inl nothing
        | inr member ↦ inr (in_fractions offset (Each period offset) e member)
      ])

pub tables_have_times : TablesHaveTimes
tables_have_times table formed = table_times table (λ b inside outside. below-by table formed b inside (written_time table.rows b) refl)
