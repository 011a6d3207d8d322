-- Code that stores in the field of a struct that would be empty is refused.
use Rattle.std.specs.Prelude.{◌≡◌, refl, ◌+◌, ◌≤◌, List, [], pos}
use Rattle.std.specs.Fmt.{digits}
use Rattle.std.proofs.Common.{sym, ap, ◌∙◌, arith, rules, lit<, lit≤, true≢false}
use Rattle.modules_profile.specs.Locals.{own_header}
use Rattle.c_syntax.specs.Tree.{PureTree}
use Rattle.c_semantics.specs.Cells.{number, Cells, number_at, set_cell}
use Rattle.c_semantics.specs.Values.{step_limit}
use Rattle.emit_prelude.specs.Rules.{IsPrelude}
use Rattle.right_relation.specs.Budgets.{own_budget}
use Rattle.right_relation.specs.Forms.{HasForms, slot_forms}
use Rattle.right_relation.specs.LocalTicks.{IsLocalTick, IsTypedTick}
use Rattle.right_relation.specs.Instances.{update, none_called}
use Rattle.right_relation.specs.Serving.{MayCome}
use Rattle.right_relation.specs.Standing.{outer_tick_of}
use Rattle.right_relation.specs.Relation.{IsCycleOf, KeepsRelation, Behaves, own_offer}
use Rattle.right_relation.specs.Renewals.{IsStarted, IsReset}
use Rattle.right_relation.specs.FillerExamples.{local, profile, slots, tick, seven, update_clears, start_clears, reset_clears}
use Rattle.right_relation.proofs.RenewedSamples.{makes}
use Rattle.right_relation.proofs.RefusedCodes.{apart}

has_slots : HasForms (slot_forms [] slots) seven
has_slots = (refl, tt)

few_steps : own_budget local ≤ step_limit
few_steps = lit≤ tt

one_cycle : IsCycleOf local 1
one_cycle = record { some = lit< tt; short = lit≤ tt; repeats = (refl, tt) }

is_tick : IsLocalTick local tick
is_tick = record {
  values = (refl, tt);
  memories = tt;
  lengths = tt;
  ring_holds = tt;
  rings = tt;
  trigger = λ triggered. absurd (true≢false (sym triggered));
  at_rest = λ off. absurd (true≢false (sym off));
}

is_typed : IsTypedTick local tick
is_typed = record {
  inputs = tt;
  controls = (search rules, tt);
  before = tt;
  values = tt;
  memories = tt;
  evaluable = tt;
  children = tt;
  outputs = tt;
}

may_come : MayCome (own_header local profile) (outer_tick_of local tick) none_called update
may_come = (refl, λ j some few. absurd (omega arith))

module _ (pures : List PureTree) (prelude : IsPrelude pures) where
  -- the update may take its 8 steps, but not leave a 0 where the 7 was
  update_is_refused : Behaves local profile slots update_clears → ⊥
  unfolding digits
  update_is_refused h =
      let k : KeepsRelation local (own_header local profile) slots h.held h.counted 1 tick
      (own_offer local profile pures slots [] update_clears (λ k. k)) [] =
      h.in_ticks pures prelude (λ k. k) 1 one_cycle [] tt tick is_tick is_typed [] tt in
      let most : k.own.most none_called update ≡ k.steps none_called update + 0 = (k.adds none_called update may_come).most in
      let budget : k.steps none_called update ≤ 8 = k.in_budget.ticks [] (record { moves = []; below = tt; is = refl }) in
      let before : k.own.standing none_called ≡ seven = k.standing none_called in
      let after : k.own.after ≡ seven = k.after in
      let left : set_cell (k.own.standing none_called) 0 (number (pos 0)) ≡ k.own.after =
      (k.serves.acts none_called update may_come 0 (omega (arith, most, budget))).fields in
      apart 0 7 refl
      (ap number (ap (λ (cells : Cells). number_at (set_cell cells 0 (number (pos 0))) 0) (sym before)
      ∙ ap (λ (cells : Cells). number_at cells 0) (left ∙ after)))

  start_is_refused : Behaves local profile slots start_clears → ⊥
  unfolding digits
  start_is_refused h = apart 0 7 refl (makes local slots seven has_slots few_steps (IsStarted local [])
      (own_offer local profile pures slots [] start_clears (λ k. k)).start (h.starts pures prelude (λ k. k) [] tt [] tt)).0

  reset_is_refused : Behaves local profile slots reset_clears → ⊥
  unfolding digits
  reset_is_refused h = apart 0 7 refl (makes local slots seven has_slots few_steps (IsReset local [])
      (own_offer local profile pures slots [] reset_clears (λ k. k)).reset (h.resets pures prelude (λ k. k) [] tt [] tt)).0
