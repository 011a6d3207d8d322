-- In each tick the code of a system keeps the relation to the runs of its own rows.
use Rattle.std.specs.Prelude.{◌≡◌, ℕ, Bool, List, ℤ, pos}
use Rattle.std.specs.List.{AllZip}
use Rattle.modules_profile.specs.declared.nodes.Node.{Node}
use Rattle.modules_profile.specs.LocalSystem.{LocalSystem}
use Rattle.modules_profile.specs.SystemProfile.{SystemProfile}
use Rattle.modules_profile.specs.Locals.{own_header}
use Rattle.modules_schedule.specs.SystemSchedule.{SystemSchedule}
use Rattle.c_syntax.specs.Tree.{PureTree}
use Rattle.emit_prelude.specs.Rules.{IsPrelude}
use Rattle.emit_shape.specs.Slots.{Slot}
use Rattle.emit_shape.specs.SystemTree.{SystemTree}
use Rattle.right_relation.specs.Instances.{none_called, InstanceTick, Offer}
use Rattle.right_relation.specs.LocalTicks.{LocalTick, IsLocalTick, IsTypedTick}
use Rattle.right_relation.specs.Relation.{own_offer, ChildrenServe, IsCycleOf, KeepsRelation}
use Rattle.right_relation.specs.Serving.{IsOfferOf}
use Rattle.right_relation.specs.Standing.{AreHeld}
use Rattle.emit_system_spec.specs.Emitted.{IsEmitted}
use Rattle.emit_system_spec.specs.EmittedCode.{system_code}
use Rattle.emit_system_spec.specs.Fields.{code_slots}
use Rattle.right_system_nodes.specs.Pieces.{HasRightPieces}

-- The behaviour of a system's code in ticks: that of `Behaves`, without its start and its reset
-- from any fields.
pub record KeepsTicks (local : LocalSystem) (profile : SystemProfile) (slots : List Slot)
    (code : SystemTree) : Type 0 where
  pub held : ℕ → Node → Bool
  pub are_held : AreHeld local (own_header local profile) held
  pub counted : (ℕ → Bool) → List ℕ → ℤ
  pub nothing_counted : (name : List ℕ) → counted none_called name ≡ pos 0
  pub in_ticks : (pures : List PureTree) → IsPrelude pures →
      (numbers : ℕ → ℕ) (cycle : ℕ) → IsCycleOf local cycle →
      (offers : List Offer) → AllZip (λ u o. IsOfferOf u.header o) local.children offers →
      (m : LocalTick) → IsLocalTick local m → IsTypedTick local m →
      (children : List InstanceTick) → ChildrenServe local m cycle local.children offers children →
      KeepsRelation local (own_header local profile) slots held counted cycle m
      (own_offer local profile pures slots offers code numbers) children

abbrev pub EmittedCodeKeepsTicks : Type 0
EmittedCodeKeepsTicks =
    (local : LocalSystem) (profile : SystemProfile) (schedule : SystemSchedule) →
    IsEmitted local profile schedule → HasRightPieces local profile schedule →
    KeepsTicks local profile (code_slots local schedule) (system_code local profile schedule)
