-- What a procedure that renews fields makes of these, where there are no children, and in how many steps.
use Rattle.std.specs.Prelude.{◌≡◌, ◌+◌, ◌≤◌, List, [], length}
use Rattle.std.proofs.Common.{sym, subst, arith}
use Rattle.modules_profile.specs.LocalSystem.{LocalSystem}
use Rattle.c_semantics.specs.Cells.{Cell, Cells}
use Rattle.c_semantics.specs.Values.{step_limit}
use Rattle.c_semantics.specs.Machine.{Outcome, done, stuck}
use Rattle.emit_shape.specs.Slots.{Slot}
use Rattle.right_relation.specs.Budgets.{own_budget}
use Rattle.right_relation.specs.Forms.{Forms, HasForms, slot_forms}
use Rattle.right_relation.specs.Instances.{Offered, OnDone}
use Rattle.right_relation.specs.Renewals.{AllSlots, RenewsOwn}

module _ (local : LocalSystem) (slots : List Slot) (before : Cells) (has_slots : HasForms (slot_forms [] slots) before)
    (few : own_budget local ≤ step_limit) (IsSo : Slot → Cell → Cell → Type 0) (q : Offered)
    (h : RenewsOwn local slots [] IsSo q) where
  has : HasForms h.own.forms before
  has = subst (λ (forms : Forms). HasForms forms before) (sym h.forms) has_slots

  room : 0 + h.own.most ≤ step_limit
  room = let most = h.most in omega (arith, most)

  pub makes : OnDone (q.routine.run [] before 0) (λ a. AllSlots IsSo slots before a.cells)
  makes = by (q.routine.run [] before 0) (h.renews.does before 0 has room)
    where
      by : (o : Outcome) → OnDone o (λ a. (a.cells ≡ h.own.renewed before) × (a.steps ≤ 0 + h.own.most) × (a.log ≡ [])) →
          OnDone o (λ a. AllSlots IsSo slots before a.cells)
      by (done a) left = subst (AllSlots IsSo slots before) (sym left.0) (h.becomes before has)
      by (stuck at cells) left = left

  pub takes : OnDone (q.routine.run [] before 0) (λ a. a.steps ≤ length slots)
  takes = by (q.routine.run [] before 0) (h.renews.does before 0 has room)
    where
      by : (o : Outcome) → OnDone o (λ a. (a.cells ≡ h.own.renewed before) × (a.steps ≤ 0 + h.own.most) × (a.log ≡ [])) →
          OnDone o (λ a. a.steps ≤ length slots)
      by (done a) left = let short = h.short in let steps = left.1 in omega (arith, short, steps)
      by (stuck at cells) left = left
