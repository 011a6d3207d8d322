-- A row has at most one sample time.
use Rattle.std.specs.Prelude.{◌≡◌, ℕ, suc, ◌<◌, ◌≤◌, ◌%◌, Option, Some, None}
use Rattle.std.proofs.Common.{sym, ◌∙◌, ap, ap₂, arith, mod-eq_of_lt}
use mathlib.Core.HLevel.{is_prop→PathP}
use native.Mathlib.Decide.{ℕ_discrete, dec_lt}
use Rattle.std.specs.Coded.{le_prop}
use Rattle.base_core.specs.declared.TimeText.{TimeText}
use Rattle.base_core.specs.declared.TimeText.TheVariants.{Inherit, Constant, Each}
use Rattle.diagram_blocks.specs.declared.Kind.{Kind}
use Rattle.diagram_blocks.specs.declared.Kind.TheVariants.{RateTransition}
use Rattle.diagram_meaning.specs.declared.times.Time.{Time}
use Rattle.diagram_meaning.specs.RowTable.{RowTable}
use Rattle.diagram_meaning.specs.Rows.{row_at}
use Rattle.diagram_meaning.specs.SampleTimes.{Includes, IsInferred, Writes, FindsBefore, HasTimeBy, HasTimeIn, HasTime, slower, outermost_trigger, written_time}

-- what divides a number above 0 is at most that number
divisor-le : (x y : ℕ) → 0 < x → x % y ≡ 0 → y ≤ x
divisor-le x y above e = elim (dec_lt x y) [ yes less ↦ absurd (let same = mod-eq_of_lt less in omega arith) | no more ↦ omega arith ]

-- sample times that include each other
pub Includes-both : (a b : Time) → Includes a b → Includes b a → (a.period ≡ b.period) × (a.offset ≡ b.offset)
Includes-both a b p q =
    let above_a : 0 < a.period = let h = a.in_period in omega arith in
    let above_b : 0 < b.period = let h = b.in_period in omega arith in
    let le : a.period ≤ b.period = divisor-le b.period a.period above_b p.0 in
    let ge : b.period ≤ a.period = divisor-le a.period b.period above_a q.0 in
    let below : b.offset < a.period = let h = b.in_period in omega arith in
    (omega arith, sym (sym (mod-eq_of_lt below) ∙ p.1))

pub time-equal : (a b : Time) → a.period ≡ b.period → a.offset ≡ b.offset → a ≡ b
time-equal a b p o =
    λ i. record {
      period = p i;
      offset = o i;
      in_period = is_prop→PathP (λ j. suc (o j) ≤ p j) (λ j. le_prop) a.in_period b.in_period i;
    }

-- what a search gives is one time
pub IsInferred-one : (Found : Time → Type 0) (a b : Time) → IsInferred Found a → IsInferred Found b → a ≡ b
IsInferred-one Found a b p q = elim (ℕ_discrete a.period b.period) [
  | yes e ↦ elim (ℕ_discrete a.offset b.offset) [
    | yes f ↦ time-equal a b e f
    | no differ ↦
        absurd (apart (λ r. differ (ap (λ t. t.offset) r)))
  ]
  | no differ ↦ absurd (apart (λ r. differ (ap (λ t. t.period) r)))
]
  where
    same : (found : Time) → Found found → a ≡ b
    same found f =
        let one = p.some found f in
        let two = q.some found f in
        let parts = Includes-both a b (two.smallest a one.includes) (one.smallest b two.includes) in
        time-equal a b parts.0 parts.1

    apart : (a ≡ b → ⊥) → ⊥
    apart differ =
        let nothing : (found : Time) → Found found → ⊥ = λ found f. differ (same found f) in
        differ (p.none nothing ∙ sym (q.none nothing))

pub Writes-one : (table : RowTable) (text : TimeText) (a b : Time) → Writes table text a → Writes table text b → a ≡ b
Writes-one table Inherit a b p q = absurd p
Writes-one table Constant a b p q = absurd p
Writes-one table (Each period offset) a b p q = time-equal a b (p.0 ∙ sym q.0) (p.1 ∙ sym q.1)

by-text : (table : RowTable) (row : ℕ) (kind : Kind) (text : TimeText) (a b : Time) → HasTimeBy table row kind text a →
    HasTimeBy table row kind text b → a ≡ b
by-text table row kind Inherit a b p q = IsInferred-one (FindsBefore table row) a b p q
by-text table row kind Constant a b p q = p ∙ sym q
by-text table row (RateTransition initial out) (Each period offset) a b p q =
    let inside = IsInferred-one (FindsBefore table row) p.0 q.0 p.2 q.2 in
    let outside = Writes-one table (Each period offset) p.1 q.1 p.3 q.3 in
    p.4 ∙ ap₂ slower inside outside ∙ sym q.4
by-text table row kind (Each period offset) a b p q = Writes-one table (Each period offset) a b p q

pub HasTime-one : (table : RowTable) (row : ℕ) (a b : Time) → HasTime table row a → HasTime table row b → a ≡ b
HasTime-one table row a b p q = by (outermost_trigger table.rows row) p q
  where
    by : (trigger : Option ℕ) → HasTimeIn table row trigger a → HasTimeIn table row trigger b → a ≡ b
    by None h k = by-text table row (row_at table.rows row).kind (written_time table.rows row) a b h k
    by (Some e) h k = h ∙ sym k
