-- The code of a system starts and resets right, whatever it finds in its fields.
use Rattle.std.specs.Prelude.{ℕ, List}
use Rattle.std.specs.List.{AllZip}
use Rattle.modules_profile.specs.LocalSystem.{LocalSystem}
use Rattle.modules_profile.specs.SystemProfile.{SystemProfile}
use Rattle.modules_schedule.specs.SystemSchedule.{SystemSchedule}
use Rattle.c_syntax.specs.Tree.{PureTree}
use Rattle.c_semantics.specs.Cells.{Cell}
use Rattle.emit_prelude.specs.Rules.{IsPrelude}
use Rattle.emit_shape.specs.Slots.{Slot}
use Rattle.right_relation.specs.Instances.{Offered, Offer}
use Rattle.right_relation.specs.Serving.{IsOfferOf}
use Rattle.right_relation.specs.Renewals.{Renewal, Renews, IsStarted, IsReset, RenewsOwn}
use Rattle.right_relation.specs.Relation.{own_offer}
use Rattle.emit_system_spec.specs.Emitted.{IsEmitted}
use Rattle.emit_system_spec.specs.EmittedCode.{system_code}
use Rattle.emit_system_spec.specs.Fields.{code_slots}

-- Where such procedures of the children renew their fields, that of a system makes this of its own.
abbrev pub EmittedCodeRenews : (procedure : Offer → Offered)
    (IsSo : LocalSystem → List Renewal → Slot → (before after : Cell) → Type 0) → Type 0
EmittedCodeRenews procedure IsSo =
    (local : LocalSystem) (profile : SystemProfile) (schedule : SystemSchedule) →
    IsEmitted local profile schedule →
    (pures : List PureTree) → IsPrelude pures → (numbers : ℕ → ℕ) →
    (offers : List Offer) → AllZip (λ u o. IsOfferOf u.header o) local.children offers →
    (children : List Renewal) → AllZip (λ o n. Renews (procedure o) n) offers children →
    let slots = code_slots local schedule in
    let code = system_code local profile schedule in
    RenewsOwn local slots children (IsSo local children)
    (procedure (own_offer local profile pures slots offers code numbers))

-- each field becomes what it is before the first tick
abbrev pub EmittedCodeStarts : Type 0
EmittedCodeStarts = EmittedCodeRenews (λ o. o.start) IsStarted

-- memories do, and values stay
abbrev pub EmittedCodeResets : Type 0
EmittedCodeResets = EmittedCodeRenews (λ o. o.reset) IsReset
