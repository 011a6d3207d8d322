-- What a tick of a run is for the rows of a system inside.
use Rattle.std.specs.Prelude.{◌≡◌, ℕ, zero, suc, ◌+◌, ◌<◌, ◌≤◌, Bool, true, false, not, ◌&&◌, ◌||◌, if◌then◌else◌, List, [], ◌∷◌, length, slice_index_or, Option, Some, None, ℤ}
use Rattle.std.specs.List.{list_any}
use Rattle.std.proofs.Common.{refl, sym, ◌∙◌, ap, subst, arith, inl, inr, true≢false, true-eqb}
use Rattle.base_core.specs.declared.Control.{Control}
use Rattle.base_core.specs.declared.Control.TheVariants.{Plain, Enabled, Triggered, Both}
use Rattle.diagram_activity.specs.declared.TrigMem.{TrigMem}
use Rattle.diagram_activity.specs.Activity.{is_high, edge, active, off}
use Rattle.diagram_meaning.specs.declared.table.Row.{Row}
use Rattle.diagram_meaning.specs.Rows.{row_at, control_at, is_system, outward, enclosing, around, is_inside}
use Rattle.diagram_meaning.specs.WellFormed.{IsNested, IsOwner}
use Rattle.diagram_meaning.specs.Diagram.{Diagram}
use Rattle.diagram_meaning.specs.Run.{trigger_at, start_of, enable_value, trigger_value, active_in, any_off, values_by, IsTick, IsRun}
use Rattle.diagram_meaning.specs.Laws.{Run}
use Rattle.diagram_meaning.specs.RunLaws.{values_before, RunsHaveTicks, TicksHaveRows, OwnRowsStandIn, OffIsNotActive}
use Rattle.diagram_meaning.proofs.lemmas.Enclosing.{enclosing-step}
use Rattle.diagram_meaning.proofs.lemmas.Equations.{value-of_row, memory-of_row, trigger-of_row}
use Rattle.diagram_meaning.proofs.lemmas.Tests.{or-cases}
use Rattle.diagram_meaning.proofs.lemmas.Ticks.{before_tick, tick-from}

-- ---- Ticks

before-is : (d : Diagram) (s : Option ℕ) (run : Run) (t : ℕ) →
    before_tick (values_by d s (start_of d)) run.values t ≡ values_before d s run t
before-is d s run zero = refl
before-is d s run (suc t) = refl

tick-of : (d : Diagram) (s : Option ℕ) (xs vs : List (List ℤ)) (ms : List (List (List ℤ))) (gs : List (List TrigMem)) (t : ℕ) →
    IsRun d s xs vs ms gs → t < length xs →
    IsTick d s t (slice_index_or xs t []) (before_tick (values_by d s (start_of d)) vs t) (slice_index_or ms t [])
    (slice_index_or gs t []) (slice_index_or vs t []) (slice_index_or ms (suc t) []) (slice_index_or gs (suc t) [])
tick-of d s xs vs [] gs t r h = absurd r
tick-of d s xs vs (m ∷ ms) [] t r h = absurd r
tick-of d s xs vs (m ∷ ms) (g ∷ gs) t r h =
    let e : t + 0 ≡ t = omega arith in
    subst (λ n. IsTick d s n (slice_index_or xs t []) (before_tick (values_by d s (start_of d)) vs t) (slice_index_or (m ∷ ms) t [])
    (slice_index_or (g ∷ gs) t []) (slice_index_or vs t []) (slice_index_or ms t []) (slice_index_or gs t [])) e
    (tick-from d s 0 t (values_by d s (start_of d)) m g xs vs ms gs r.2 h)

pub runs_have_ticks : RunsHaveTicks
runs_have_ticks d s xs run t is below =
    subst (λ before. IsTick d s t (slice_index_or xs t []) before (slice_index_or run.memories t []) (slice_index_or run.triggers t [])
    (slice_index_or run.values t []) (slice_index_or run.memories (suc t) []) (slice_index_or run.triggers (suc t) []))
    (before-is d s run t) (tick-of d s xs run.values run.memories run.triggers t is below)

pub ticks_have_rows : TicksHaveRows
ticks_have_rows d s t x before m g v m' g' tick = record {
  values = λ b inside h. value-of_row d s t x before m g v m' g' tick b inside h;
  memories = λ b inside h. memory-of_row d s t x before m g v m' g' tick b inside h;
  triggers = λ e inside h. trigger-of_row d s t x before m g v m' g' tick e inside h;
}

-- ---- Around a row

none-outward : (rows : List Row) (n : ℕ) → outward rows None n None ≡ []
none-outward rows zero = refl
none-outward rows (suc n) = refl

module _ (rows : List Row) (nested : IsNested rows) where
  -- the subsystems outward from e have numbers up to e
  up-to : (k n e : ℕ) → e < length rows → list_any (is_system (Some k)) (outward rows None n (Some e)) ≡ true → k ≤ e
  up-to k zero e inside h = absurd (true≢false (sym h))
  up-to k (suc n) e inside h = by (is_system (Some k) e) refl (row_at rows e).owner (nested.owned e inside)
      (λ f below more. up-to k n f below more) h
    where
      by : (here : Bool) → is_system (Some k) e ≡ here → (o : Option ℕ) → IsOwner rows e o →
          ((f : ℕ) → f < length rows → list_any (is_system (Some k)) (outward rows None n (Some f)) ≡ true → k ≤ f) →
          (here || list_any (is_system (Some k)) (outward rows None n o)) ≡ true → k ≤ e
      by true e_is o owner next more = let same : k ≡ e = true-eqb k e (sym e_is) in omega arith
      by false e_is None owner next more = absurd (true≢false (sym (sym (ap (list_any (is_system (Some k))) (none-outward rows n)) ∙ more)))
      by false e_is (Some f) owner next more =
          let less = owner.0 in
          let rest = next f (omega (arith, less, inside)) more in
          omega (arith, rest, less)

pub own_rows_stand_in : OwnRowsStandIn
own_rows_stand_in rows s None b nested row = record {
  is_inside = subst (λ o. is_inside rows o b ≡ true) (sym row.within) refl;
  is_other = subst (λ o. is_system o b ≡ false) (sym row.within) refl;
  around = subst (λ o. around rows o b ≡ []) (sym row.within) (ap (enclosing rows None) row.own ∙ none-outward rows (length rows));
}
own_rows_stand_in rows s (Some e) b nested row = record {
  is_inside = inside s on;
  is_other = other;
  around = ap (λ (self : Bool). if self then [] else enclosing rows s (row_at rows b).owner) other ∙ ap (enclosing rows s) row.own
      ∙ enclosing-step rows s nested e in_table;
}
  where
    before : e < b
    before = (subst (IsOwner rows b) row.own (nested.owned b row.in_table)).0

    in_table : e < length rows
    in_table = let below = row.in_table in omega (arith, before, below)

    -- a system that is e or around it is among those around row b
    on : (k : ℕ) → s ≡ Some k → list_any (is_system (Some k)) (enclosing rows None (Some e)) ≡ true
    on k is =
        ap (list_any (is_system (Some k))) (enclosing-step rows None nested e in_table)
        ∙ subst (λ o. (is_system o e || is_inside rows o e) ≡ true) is row.within

    inside : (o : Option ℕ) → ((k : ℕ) → o ≡ Some k → list_any (is_system (Some k)) (enclosing rows None (Some e)) ≡ true) →
        is_inside rows o b ≡ true
    inside None among = refl
    inside (Some k) among = ap (λ owner. list_any (is_system (Some k)) (enclosing rows None owner)) row.own ∙ among k refl

    apart : (o : Option ℕ) → ((k : ℕ) → o ≡ Some k → list_any (is_system (Some k)) (enclosing rows None (Some e)) ≡ true) →
        is_system o b ≡ false
    apart None among = refl
    apart (Some k) among = by (is_system (Some k) b) refl
      where
        by : (same : Bool) → is_system (Some k) b ≡ same → is_system (Some k) b ≡ false
        by false q = q
        by true q =
            let is : k ≡ b = true-eqb k b (sym q) in
            let upper = up-to rows nested k (length rows) e in_table (among k refl) in
            absurd (omega (arith, is, upper, before))

    other : is_system s b ≡ false
    other = apart s on

-- ---- Where something is off nothing inside is active

-- an enable that takes the states is low
low-enable : (reset outside high : Bool) → (reset && (outside && not high)) ≡ true → high ≡ false
low-enable true true true h = sym h
low-enable true true false h = refl
low-enable true false high h = absurd (true≢false (sym h))
low-enable false outside high h = absurd (true≢false (sym h))

and-low : (outside high event : Bool) → high ≡ false → ((outside && high) ≡ false) × ((outside && (high && event)) ≡ false)
and-low true high event e = (e, ap (λ h. h && event) e)
and-low false high event e = (refl, refl)

off-inactive : (outside : Bool) (control : Control) (memory : TrigMem) (enable trigger : ℤ) → off outside control enable ≡ true →
    active outside control memory enable trigger ≡ false
off-inactive outside Plain memory enable trigger h = absurd (true≢false (sym h))
off-inactive outside (Enabled reset) memory enable trigger h =
    (and-low outside (is_high enable) true (low-enable reset outside (is_high enable) h)).0
off-inactive outside (Triggered waits_for) memory enable trigger h = absurd (true≢false (sym h))
off-inactive outside (Both reset waits_for) memory enable trigger h =
    (and-low outside (is_high enable) (edge waits_for memory trigger) (low-enable reset outside (is_high enable) h)).1

-- nothing is active in what is not
at-rest : (control : Control) (memory : TrigMem) (enable trigger : ℤ) → active false control memory enable trigger ≡ false
at-rest Plain memory enable trigger = refl
at-rest (Enabled reset) memory enable trigger = refl
at-rest (Triggered waits_for) memory enable trigger = refl
at-rest (Both reset waits_for) memory enable trigger = refl

pub off_is_not_active : OffIsNotActive
off_is_not_active d s x v g [] h = absurd (true≢false (sym h))
off_is_not_active d s x v g (e ∷ outer) h =
    let outside = active_in d s x v g outer in
    elim (or-cases (off outside (control_at d.rows e) (enable_value d s x v g e)) (any_off d s x v g outer) h) [
      | inl here ↦ off-inactive outside (control_at d.rows e) (trigger_at g e) (enable_value d s x v g e) (trigger_value d s x v g e) here
      | inr around ↦
          ap (λ p. active p (control_at d.rows e) (trigger_at g e) (enable_value d s x v g e) (trigger_value d s x v g e))
          (off_is_not_active d s x v g outer around)
          ∙ at-rest (control_at d.rows e) (trigger_at g e) (enable_value d s x v g e) (trigger_value d s x v g e)
    ]
