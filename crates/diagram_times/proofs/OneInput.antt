-- The time that the inputs of a row give is one, and what follows for the time of the row.
use Rattle.std.proofs.Common.{◌≡◌, refl, ℕ, ◌<◌, ◌≤◌, Option, None, Some, sym, ap, subst, ◌∙◌, arith, mod-eq_of_lt}
use Rattle.std.specs.Prelude.{◌↔◌, IsTrue, nat_lt}
use Rattle.std.proofs.lemmas.Nat.Gcd.{dvd_of_mod-eq-zero, le_of_dvd}
use Rattle.std.proofs.lemmas.Bool.Decides.{nat_tests}
use native.Mathlib.Decide.{ℕ_discrete}
use Rattle.base_core.specs.declared.TimeText.{TimeText}
use Rattle.base_core.specs.declared.TimeText.TheVariants.{Inherit, Constant, Each}
use Rattle.diagram_blocks.specs.declared.Kind.{Kind}
use Rattle.diagram_blocks.specs.declared.Kind.TheVariants.{RateTransition}
use Rattle.diagram_meaning.specs.declared.times.Time.{Time}
use Rattle.diagram_meaning.specs.RowTable.{RowTable}
use Rattle.diagram_meaning.specs.SampleTimes.{every_tick, Includes, IsInferred, IsInputTime, FindsBefore, HasTimeBy, Writes}
use Rattle.diagram_times.specs.declared.base.BaseTick.{BaseTick}
use Rattle.diagram_times.specs.Bases.{IsBaseOf, IsTimeOf}
use Rattle.diagram_times.specs.Running.{time_by_kind}
use Rattle.diagram_times.proofs.CollectSteps.{time-equal, writes-of, time-written}

low : (a b : Time) → Includes a b → a.period ≤ b.period
low a b p = le_of_dvd (let h = b.in_period in omega arith) (dvd_of_mod-eq-zero a.period p.0)

-- times that include each other are one
both-ways : (a b : Time) → Includes a b → Includes b a → a ≡ b
both-ways a b p q =
    let le = low a b p in
    let ge = low b a q in
    let period : a.period ≡ b.period = omega arith in
    let below : b.offset < a.period = let h = b.in_period in omega arith in
    time-equal a b period (sym (sym (mod-eq_of_lt below) ∙ p.1))

inferred-one : (Found : Time → Type 0) (a b : Time) → IsInferred Found a → IsInferred Found b → a ≡ b
inferred-one Found a b p q = elim (ℕ_discrete a.period b.period) [
  | yes e ↦ elim (ℕ_discrete a.offset b.offset) [
    | yes f ↦ time-equal a b e f
    | no differ ↦
        absurd (apart (λ r. differ (ap (λ t. t.offset) r)))
  ]
  | no differ ↦ absurd (apart (λ r. differ (ap (λ t. t.period) r)))
]
  where
    same : (found : Time) → Found found → a ≡ b
    same found f =
        both-ways a b ((q.some found f).smallest a (p.some found f).includes)
        ((p.some found f).smallest b (q.some found f).includes)

    apart : (a ≡ b → ⊥) → ⊥
    apart differ = differ (p.none (λ found f. differ (same found f)) ∙ sym (q.none (λ found f. differ (same found f))))

pub input-one : (table : RowTable) (b : ℕ) (p q : Time) → IsInputTime table b p → IsInputTime table b q → p ≡ q
input-one table b p q = inferred-one (FindsBefore table b) p q

-- a row that writes no period
pub has-none : (table : RowTable) (base : BaseTick) (b : ℕ) (kind : Kind) (text : TimeText) (o : Option Time) →
    (text ≡ Inherit → ⊥) → IsTimeOf base text o → o ≡ None →
    HasTimeBy table b kind text every_tick
has-none table base b kind Inherit o written is e = absurd (written refl)
has-none table base b kind Constant o written is e = refl
has-none table base b kind (Each period offset) o written is e = absurd (let f = is.1 in let wrong : ⊥ = cc (e, f) in wrong)

-- a row that writes a period
pub has-written : (table : RowTable) (b : ℕ) (kind : Kind) (text : TimeText) (inside outside : Time) →
    IsInputTime table b inside → Writes table text outside →
    HasTimeBy table b kind text (time_by_kind kind inside outside)
has-written table b kind Inherit inside outside given w = absurd w
has-written table b kind Constant inside outside given w = absurd w
has-written table b (RateTransition initial out) (Each period offset) inside outside given w = (inside, outside, given, w, refl)
has-written table b _ (Each period offset) inside outside given w = w

-- a rate transition by the one time that its input gives
pub slow-to-fast : (table : RowTable) (b : ℕ) (out : TimeText) (inside : Time) → IsInputTime table b inside →
    ((outside : Time) × Writes table out outside × (outside.period < inside.period))
    ↔ ((before outside : Time) × IsInputTime table b before × Writes table out outside × (outside.period < before.period))
slow-to-fast table b out inside given = (
  λ h. (inside, h.0, given, h.1, h.2),
  λ h. (h.1, h.3, subst (λ (t : Time). h.1.period < t.period) (input-one table b h.0 inside h.2 given) h.4),
)

lesser : (a b : ℕ) → IsTrue (nat_lt a b) → a < b
lesser a b h = grind (arith, nat_tests)

lesser-told : (a b : ℕ) → a < b → IsTrue (nat_lt a b)
lesser-told a b h = grind (arith, nat_tests)

-- whether the written time has a lesser period
pub faster : (table : RowTable) (base : BaseTick) (is_base : IsBaseOf table base) (text : TimeText) (o : Option Time)
    (outside : Time) (period : ℕ) → IsTimeOf base text o → o ≡ Some outside →
    IsTrue (nat_lt outside.period period) ↔ ((time : Time) × Writes table text time × (time.period < period))
faster table base is_base text o outside period is e = (
  λ h. (outside, writes-of table base is_base text o outside is e, lesser outside.period period h),
  λ h.
      let same : h.0 ≡ outside = cc (time-written table base is_base text o h.0 is h.1, e) in
      lesser-told outside.period period (subst (λ (t : Time). t.period < period) same h.2),
)
