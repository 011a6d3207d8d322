-- What the procedures of a system's code do in a tick, and what these acts add: two parts of the
-- relation.
use Rattle.std.specs.Prelude.{◌≡◌, ℕ, ◌<◌, Bool, if◌then◌else◌, List, [], length, slice_index, IsFalse, ℤ}
use Rattle.std.specs.List.{AllZip}
use Rattle.modules_profile.specs.LocalSystem.{LocalSystem}
use Rattle.modules_profile.specs.SystemHeader.{SystemHeader}
use Rattle.modules_profile.specs.SystemProfile.{SystemProfile}
use Rattle.modules_profile.specs.Locals.{own_header}
use Rattle.modules_schedule.specs.SystemSchedule.{SystemSchedule}
use Rattle.base_core.specs.Numbers.{int_at}
use Rattle.c_syntax.specs.Tree.{PureTree}
use Rattle.c_semantics.specs.Cells.{number_at}
use Rattle.emit_prelude.specs.Rules.{IsPrelude}
use Rattle.right_relation.specs.Accounts.{Adds}
use Rattle.right_relation.specs.Budgets.{IsWithinBudget}
use Rattle.right_relation.specs.Instances.{Act, none_called, InstanceTick, fields_after, Offer, offered_for, calls_at, Performs}
use Rattle.right_relation.specs.LocalTicks.{LocalTick, IsLocalTick, IsTypedTick}
use Rattle.right_relation.specs.Relation.{own_offer, ChildrenServe, IsCycleOf}
use Rattle.right_relation.specs.Serving.{act_values, MayCome, is_given, own_entry, IsOfferOf}
use Rattle.right_relation.specs.Standing.{AreHeld, outer_tick_of}
use Rattle.emit_system_spec.specs.Emitted.{IsEmitted}
use Rattle.emit_system_spec.specs.EmittedCode.{system_code}
use Rattle.emit_system_spec.specs.Fields.{code_slots}
use Rattle.right_system_nodes.specs.Pieces.{HasRightPieces}
use Rattle.right_system_ticks.specs.Holding.{held}
use Rattle.right_system_ticks.specs.OwnInstances.{own_steps, own_instance}

-- ---- A tick of a system

-- a system whose code was emitted, in a tick in which its children serve
pub record IsTickOf (local : LocalSystem) (profile : SystemProfile) (schedule : SystemSchedule)
    (cycle : ℕ) (offers : List Offer) (m : LocalTick) (children : List InstanceTick) : Type 0 where
  pub emitted : IsEmitted local profile schedule
  pub is_cycle : IsCycleOf local cycle
  pub are_offers : AllZip (λ u o. IsOfferOf u.header o) local.children offers
  pub is_tick : IsLocalTick local m
  pub is_typed : IsTypedTick local m
  pub serve : ChildrenServe local m cycle local.children offers children

-- the offer and the instance of the system itself, in a program with these pure functions and
-- numbers of procedures
module _ (local : LocalSystem) (profile : SystemProfile) (schedule : SystemSchedule)
    (offers : List Offer) where
  abbrev pub emitted_offer : List PureTree → (ℕ → ℕ) → Offer
  emitted_offer pures numbers =
      own_offer local profile pures (code_slots local schedule) offers
      (system_code local profile schedule) numbers

  abbrev pub emitted_instance :
      List PureTree → (ℕ → ℕ) → LocalTick → List InstanceTick → InstanceTick
  emitted_instance pures numbers m children =
      own_instance local (own_header local profile) schedule m children
      (emitted_offer pures numbers)

-- ---- What procedures do

-- each act that may come does what the instance says
abbrev pub EmittedActsArePerformed : Type 0
EmittedActsArePerformed =
    (local : LocalSystem) (profile : SystemProfile) (schedule : SystemSchedule) (cycle : ℕ)
    (offers : List Offer) (m : LocalTick) (children : List InstanceTick) →
    IsTickOf local profile schedule cycle offers m children →
    HasRightPieces local profile schedule →
    (pures : List PureTree) → IsPrelude pures → (numbers : ℕ → ℕ) (called : ℕ → Bool) (act : Act) →
    let h = own_header local profile in
    let outer = outer_tick_of local m in
    let own = emitted_instance local profile schedule offers pures numbers m children in
    MayCome h outer called act →
    Performs (offered_for (emitted_offer local profile schedule offers pures numbers) act).routine
    (act_values h cycle outer act) (own.standing called) (fields_after own called act)
    (own.most called act) (own.log called act) (own.stored called act)

-- ---- What they add

-- a function holds the nodes whose groups it calls
abbrev pub CalledGroupsAreHeld : Type 0
CalledGroupsAreHeld = (local : LocalSystem) (profile : SystemProfile) (schedule : SystemSchedule) →
    IsEmitted local profile schedule →
    AreHeld local (own_header local profile) (held local schedule)

-- the own steps of all calls of a tick are within the budget
abbrev pub EmittedStepsAreFew : Type 0
EmittedStepsAreFew =
    (local : LocalSystem) (profile : SystemProfile) (schedule : SystemSchedule) (m : LocalTick)
    (children : List InstanceTick) → IsEmitted local profile schedule →
    IsWithinBudget local (own_header local profile)
    (own_steps local (own_header local profile) schedule m children)

-- each act adds to steps, log and stores what it should
abbrev pub EmittedActsAdd : Type 0
EmittedActsAdd =
    (local : LocalSystem) (profile : SystemProfile) (schedule : SystemSchedule) (cycle : ℕ)
    (offers : List Offer) (m : LocalTick) (children : List InstanceTick) →
    IsTickOf local profile schedule cycle offers m children →
    (pures : List PureTree) (numbers : ℕ → ℕ) (called : ℕ → Bool) (act : Act) →
    let h = own_header local profile in
    MayCome h (outer_tick_of local m) called act →
    Adds local h (held local schedule) m (code_slots local schedule) children
    (emitted_instance local profile schedule offers pures numbers m children)
    (own_steps local h schedule m children) called act

-- of the instance itself just the call is logged
abbrev pub EmittedActsAreLogged : Type 0
EmittedActsAreLogged =
    (local : LocalSystem) (profile : SystemProfile) (schedule : SystemSchedule)
    (offers : List Offer) (m : LocalTick) (children : List InstanceTick) (pures : List PureTree)
    (numbers : ℕ → ℕ) (called : ℕ → Bool) (act : Act) →
    let own = emitted_instance local profile schedule offers pures numbers m children in
    calls_at [] (own.log called act)
    ≡ own_entry (emitted_offer local profile schedule offers pures numbers) act

-- the fields of outputs have their values where their functions were called, and at the next tick
pub record StandsByOutputs (h : SystemHeader) (places : List ℕ) (before now : List ℤ)
    (i : InstanceTick) : Type 0 where
  pub outputs : (called : ℕ → Bool) (k : ℕ) → k < length h.outputs →
      number_at (i.standing called) (slice_index places k)
      ≡ int_at (if is_given h called k then now else before) k
  pub stay : (k : ℕ) → k < length h.outputs →
      number_at i.after (slice_index places k) ≡ int_at now k

abbrev pub EmittedOutputsStand : Type 0
EmittedOutputsStand =
    (local : LocalSystem) (profile : SystemProfile) (schedule : SystemSchedule) (cycle : ℕ)
    (offers : List Offer) (m : LocalTick) (children : List InstanceTick) →
    IsTickOf local profile schedule cycle offers m children →
    (pures : List PureTree) (numbers : ℕ → ℕ) →
    StandsByOutputs (own_header local profile)
    (emitted_offer local profile schedule offers pures numbers).places
    (outer_tick_of local m).before (outer_tick_of local m).outputs
    (emitted_instance local profile schedule offers pures numbers m children)

-- without an act nothing changes
abbrev pub EmittedFieldsRest : Type 0
EmittedFieldsRest =
    (local : LocalSystem) (profile : SystemProfile) (schedule : SystemSchedule) (cycle : ℕ)
    (offers : List Offer) (m : LocalTick) (children : List InstanceTick) →
    IsTickOf local profile schedule cycle offers m children →
    (pures : List PureTree) (numbers : ℕ → ℕ) → IsFalse m.tick.parent →
    IsFalse m.tick.is_off_around →
    let own = emitted_instance local profile schedule offers pures numbers m children in
    own.after ≡ own.standing none_called
