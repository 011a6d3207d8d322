-- Lawful written times in base ticks: they can be counted, and each offset is below its period.
use Rattle.std.proofs.Common.{◌≡◌, refl, sym, ◌∙◌, ap, ap₂, subst, arith, ℕ, zero, suc, ◌*◌, ◌/◌, ◌^◌, ◌<◌, ◌≤◌, Bool, true, false, List, [], ◌∷◌, length, Option, None, Some, inl, inr, true-eqb}
use Rattle.std.specs.Prelude.{find, option_map, ◌⊎◌, ◌==◌, if◌then◌else◌}
use Rattle.std.specs.Int.{◌∣◌}
use Rattle.std.specs.Option.{option_or}
use Rattle.std.proofs.Math.Nat.{div-mul_cancel, div-lt_iff_lt-mul, lt_of_mul-lt-mul_left, mul-lt-mul_of_pos_left}
use Rattle.std.proofs.lemmas.List.Folds.{find-append}
use Rattle.std.proofs.lemmas.Bool.{ltb-false}
use native.Mathlib.Nat.{one-dvd, pos_of_dvd_of_pos}
use Rattle.base_core.specs.declared.Frac.{Frac}
use Rattle.base_core.specs.declared.TimeText.{TimeText}
use Rattle.base_core.specs.declared.TimeText.TheVariants.{Inherit, Constant, Each}
use Rattle.base_refusals.specs.declared.refusal.CycleWhat.TheVariants.{Period}
use Rattle.base_refusals.specs.Refusals.{LongCycle}
use Rattle.diagram_meaning.specs.declared.table.Row.{Row}
use Rattle.diagram_meaning.specs.RowTable.{RowTable}
use Rattle.diagram_meaning.specs.SampleTimes.{written_by, written_time, fractions, fractions_in, step_in, common_denominator, numerator_over, base_numerator, periods_in}
use Rattle.diagram_meaning.specs.TimeRefusals.{AtLine, by_line, long_period}
use Rattle.diagram_meaning.specs.WellFormed.{IsTime}
use Rattle.diagram_times.specs.declared.base.BaseTick.{BaseTick}
use Rattle.diagram_times.specs.Bases.{IsBaseOf, ticks_of, IsCountable, IsCountedText, AreCounted}
use Rattle.diagram_times.specs.Lawful.{IsLawfulText, IsPeriodCountable, ArePeriodsCountable}
use Rattle.diagram_times.proofs.BaseSteps.{written_fractions}
use Rattle.diagram_times.proofs.Divisors.{Member, member-left, member-right, lcm-member, lcm-all_positive, gcd-member}
use Rattle.diagram_times.proofs.LineNumbers.{of_rows, of_row, at_line}
use Rattle.diagram_times.proofs.PeriodSteps.{periods_by, is_long, by_line-periods}

-- ---- One written time

-- a fraction that is less is so over a common denominator
less-over : (n d m e common : ℕ) → 0 < d → 0 < e → 0 < common → d ∣ common → e ∣ common → n * e < m * d →
    n * (common / d) < m * (common / e)
less-over n d m e common above_d above_e above by_d by_e less =
    let x = common / d in
    let y = common / e in
    let left = ap (λ c. c * (n * e)) (div-mul_cancel d by_d) in
    let right = ap (λ c. c * (m * d)) (div-mul_cancel e by_e) in
    let more : common * (n * e) < common * (m * d) = mul-lt-mul_of_pos_left less above in
    lt_of_mul-lt-mul_left (d * e) {m = n * x} {n = m * y} (omega (arith, left, right, more))

-- and 0 is less than each that is above it
zero-over : (m e common : ℕ) → 0 < e → 0 < common → e ∣ common → 0 < m → 0 < m * (common / e)
zero-over m e common above_e above by_e positive =
    let least : 0 < 1 = omega arith in
    let less : 0 * e < m * 1 = omega (arith, positive) in
    let over = less-over 0 1 m e common least above_e above (one-dvd common) by_e less in
    omega (arith, over)

-- numbers divided by a divisor of the greater
less-divided : (n m base : ℕ) → base ∣ m → 0 < base → n < m → n / base < m / base
less-divided n m base divides above less =
    (div-lt_iff_lt-mul above).1 (subst (λ k. n < k) (sym (div-mul_cancel base divides)) less)

-- the fractions of a table have their base tick
module _ (table : RowTable) (base : BaseTick) (is_base : IsBaseOf table base) (low : base.denominator ≤ 10 ^ 9) where
  common-positive : 0 < common_denominator (fractions table)
  common-positive = lcm-all_positive (λ (f : Frac). f.den) 1 (fractions table) (λ f. f.lowest.0) (omega arith)

  above : 0 < base.denominator
  above = subst (λ n. 0 < n) (sym is_base.denominator) common-positive

  den-divides : (f : Frac) → Member f (fractions table) → f.den ∣ base.denominator
  den-divides f member = subst (λ n. f.den ∣ n) (sym is_base.denominator) (lcm-member (λ (f : Frac). f.den) 1 f (fractions table) member)

  base-divides : (f : Frac) → Member f (fractions table) → base.numerator ∣ numerator_over base.denominator f
  base-divides f member =
      subst (λ n. n ∣ numerator_over base.denominator f) (sym is_base.numerator)
      (subst (λ d. base_numerator (fractions table) ∣ numerator_over d f) (sym is_base.denominator)
      (gcd-member (numerator_over (common_denominator (fractions table))) 0 f (fractions table) member))

  module _ (period offset : Frac) (is : IsTime period offset) (written : Member period (fractions table)) where
    period-positive : 0 < numerator_over base.denominator period
    period-positive = zero-over period.num period.den base.denominator period.lowest.0 above (den-divides period written) is.period_limits.0

    base-positive : 0 < base.numerator
    base-positive = pos_of_dvd_of_pos (base-divides period written) period-positive

    period-countable : IsCountable base period
    period-countable = record { some = base-positive; denominator = low; low = is.period_limits.1 }

    offset-countable : IsCountable base offset
    offset-countable = record { some = base-positive; denominator = low; low = is.offset_limits.0 }

    numerators : (offset.num ≡ 0) ⊎ Member offset (fractions table) → numerator_over base.denominator offset
        < numerator_over base.denominator period
    numerators (inl nothing) =
        let over = period-positive in
        let none : offset.num * (base.denominator / offset.den) ≡ 0 = ap (λ n. n * (base.denominator / offset.den)) nothing ∙ omega arith in
        omega (arith, over, none)
    numerators (inr member) =
        less-over offset.num offset.den period.num period.den base.denominator offset.lowest.0 period.lowest.0 above
        (den-divides offset member) (den-divides period written) is.below

    offset-below : (offset.num ≡ 0) ⊎ Member offset (fractions table) → ticks_of base offset < ticks_of base period
    offset-below known =
        less-divided (numerator_over base.denominator offset) (numerator_over base.denominator period) base.numerator
        (base-divides period written) base-positive (numerators known)

-- ---- The rows

offset-member : (period offset : Frac) → (offset.num ≡ 0) ⊎ Member offset (fractions_in (Each period offset))
offset-member period offset = by (offset.num == 0) refl
  where
    by : (none : Bool) → (offset.num == 0) ≡ none → (offset.num ≡ 0) ⊎ Member offset (period ∷ (if none then [] else offset ∷ []))
    by true e = inl (true-eqb offset.num 0 (sym e))
    by false e = inr (inr (inl refl))

row-member : (f : Frac) (rows : List Row) (b : ℕ) → b < length rows → Member f (fractions_in (written_time rows b)) →
    Member f (written_fractions rows)
row-member f [] b inside h = absurd (omega arith)
row-member f (row ∷ rows) zero inside h = member-left f (fractions_in (written_by row.kind row.time_text)) _ h
row-member f (row ∷ rows) (suc b) inside h = member-right f (fractions_in (written_by row.kind row.time_text)) _
    (row-member f rows b (omega (arith, inside)) h)

-- ---- No period is too long

none-both : {X : Type 0} (a b : Option X) → option_or a b ≡ None → (a ≡ None) × (b ≡ None)
none-both None b e = (refl, e)
none-both (Some x) b e = absurd (some-none x e)
  where
    some-none : {X : Type 0} (x : X) → (let found : Option X = Some x in found ≡ None) → ⊥
    some-none x e = cc e

short-one : (line number : ℕ) → find is_long (record { line = line; number = number } ∷ []) ≡ None → number ≤ 1_000_000
short-one line number e =
    let one : AtLine = record { line = line; number = number } in
    by one (is_long one) refl e
  where
    some-none : (a : AtLine) → (let found : Option AtLine = Some a in found ≡ None) → ⊥
    some-none a e = cc e

    by : (one : AtLine) (r : Bool) → is_long one ≡ r → (if r then Some one else None) ≡ None → one.number ≤ 1_000_000
    by one true test e = absurd (some-none one e)
    by one false test e = ltb-false 1_000_000 one.number test

short-rows : (base : BaseTick) (rows : List Row) (b : ℕ) (period offset : Frac) →
    find is_long (of_rows (periods_by base) rows) ≡ None → b < length rows →
    written_time rows b ≡ Each period offset → ticks_of base period ≤ 1_000_000
short-rows base [] b period offset e below writes = absurd (omega arith)
short-rows base (row ∷ rows) zero period offset e below writes =
    let none =
    none-both (find is_long (of_row (periods_by base) row)) _
    (sym (find-append is_long (of_row (periods_by base) row) (of_rows (periods_by base) rows)) ∙ e) in
    short-one row.place.line (ticks_of base period)
    (ap (λ text. find is_long (at_line row.place.line (periods_by base text))) (sym writes) ∙ none.0)
short-rows base (row ∷ rows) (suc b) period offset e below writes =
    let none =
    none-both (find is_long (of_row (periods_by base) row)) _
    (sym (find-append is_long (of_row (periods_by base) row) (of_rows (periods_by base) rows)) ∙ e) in
    short-rows base rows b period offset none.1 (omega (arith, below)) writes

-- ---- All that rows write

module _ (table : RowTable) (base : BaseTick) (is_base : IsBaseOf table base) (low : base.denominator ≤ 10 ^ 9)
    (lawful : (b : ℕ) → b < length table.rows → IsLawfulText (written_time table.rows b)) where
  in-fractions : (f : Frac) (b : ℕ) (text : TimeText) → b < length table.rows → written_time table.rows b ≡ text →
      Member f (fractions_in text) →
      Member f (fractions table)
  in-fractions f b text inside e h =
      member-right f (step_in table.fixed_step) _
      (row-member f table.rows b inside (subst (λ text. Member f (fractions_in text)) (sym e) h))

  pub are-countable : ArePeriodsCountable table.rows base
  are-countable b inside = by (written_time table.rows b) refl
    where
      by : (text : TimeText) → written_time table.rows b ≡ text → IsPeriodCountable base text
      by Inherit e = tt
      by Constant e = tt
      by (Each period offset) e =
          period-countable table base is_base low period offset (subst IsLawfulText e (lawful b inside))
          (in-fractions period b (Each period offset) inside e (inl refl))

  pub are-counted : find is_long (of_rows (periods_by base) table.rows) ≡ None → AreCounted table.rows base
  are-counted short b inside = by (written_time table.rows b) refl
    where
      by : (text : TimeText) → written_time table.rows b ≡ text → IsCountedText base text
      by Inherit e = tt
      by Constant e = tt
      by (Each period offset) e =
          let is : IsTime period offset = subst IsLawfulText e (lawful b inside) in
          let written = in-fractions period b (Each period offset) inside e (inl refl) in
          record {
            period_countable = period-countable table base is_base low period offset is written;
            offset_countable = offset-countable table base is_base low period offset is written;
            short = short-rows base table.rows b period offset short inside e;
            below = offset-below table base is_base low period offset is written (elim (offset-member period offset) [
              | inl nothing ↦ inl nothing
              | inr member ↦ inr (in-fractions offset b (Each period offset) inside e member)
            ]);
          }

  pub counted-short : long_period table ≡ None → AreCounted table.rows base
  counted-short e =
      are-counted (ap (find is_long) (sym (by_line-periods table table.rows base refl is_base))
      ∙ unmapped (λ (p : AtLine). LongCycle p.line Period p.number) (find is_long (by_line table.rows (periods_in table))) e)
    where
      none-some : {X : Type 0} (x : X) → (let found : Option X = Some x in found ≡ None) → ⊥
      none-some x e = cc e

      unmapped : {X Y : Type 0} (f : X → Y) (o : Option X) → option_map f o ≡ None → o ≡ None
      unmapped f None e = refl
      unmapped f (Some x) e = absurd (none-some (f x) e)

-- the denominator of the base tick is low
pub base-low : (table : RowTable) (base : BaseTick) (d : ℕ) → IsBaseOf table base → d ≡ common_denominator (fractions table) → d ≤ 10 ^ 9 →
    base.denominator ≤ 10 ^ 9
base-low table base d is e low = subst (λ n. n ≤ 10 ^ 9) (e ∙ sym is.denominator) low

-- ---- The first refusal of the written times

module _ {X : Type 0} (inside denominator period cycle : Option X) (refused : X) where
  abbrev first : Option X
  first = option_or inside (option_or denominator (option_or period (option_or cycle None)))

  pub at-denominator : inside ≡ None → denominator ≡ Some refused → first ≡ Some refused
  at-denominator e f =
      ap₂ (λ a b. option_or a (option_or b (option_or period (option_or cycle None)))) e f

  pub at-period : inside ≡ None → denominator ≡ None → period ≡ Some refused → first ≡ Some refused
  at-period e f g =
      ap₂ (λ a b. option_or a (option_or b (option_or period (option_or cycle None)))) e f
      ∙ ap (λ c. option_or c (option_or cycle None)) g

  pub at-cycle : inside ≡ None → denominator ≡ None → period ≡ None → cycle ≡ Some refused → first ≡ Some refused
  at-cycle e f g h =
      ap₂ (λ a b. option_or a (option_or b (option_or period (option_or cycle None)))) e f
      ∙ ap₂ (λ c d. option_or c (option_or d None)) g h

pub at-none : {X : Type 0} (inside denominator period cycle : Option X) → inside ≡ None → denominator ≡ None →
    period ≡ None → cycle ≡ None →
    option_or inside (option_or denominator (option_or period (option_or cycle None))) ≡ None
at-none inside denominator period cycle e f g h =
    ap₂ (λ a b. option_or a (option_or b (option_or period (option_or cycle None)))) e f
    ∙ ap₂ (λ c d. option_or c (option_or d None)) g h
