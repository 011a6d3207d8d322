-- The code of a system has the shape of a system's code: each part of that, and the whole.
use Rattle.std.specs.Prelude.{◌≡◌, not, map, filter, length, IsPermutation}
use Rattle.std.specs.List.{AllByRecursion, range_with_len}
use Rattle.modules_profile.specs.LocalSystem.{LocalSystem}
use Rattle.modules_profile.specs.SystemProfile.{SystemProfile}
use Rattle.modules_profile.specs.Headers.{given_rows}
use Rattle.modules_profile.specs.Locals.{own_header}
use Rattle.modules_schedule.specs.SystemSchedule.{SystemSchedule}
use Rattle.emit_shape.specs.Heads.{head_of, public_heads}
use Rattle.emit_shape.specs.LocalShape.{HasLocalShape, local_names, own_position, outputs_stored}
use Rattle.emit_shape.specs.Names.{out_name}
use Rattle.emit_shape.specs.Once.{StatesOnce}
use Rattle.emit_shape.specs.Rules.{KeepsRules}
use Rattle.emit_shape.specs.Used.{AreUsed}
use Rattle.emit_shape.specs.Slots.{AreSlots, IsStructOf, AreOutputPlaces, counters_in}
use Rattle.emit_system_spec.specs.Emitted.{IsEmitted}
use Rattle.emit_system_spec.specs.EmittedCode.{system_code}
use Rattle.emit_system_spec.specs.Fields.{code_slots}

abbrev pub SlotsAreRight : Type 0
SlotsAreRight =
    (local : LocalSystem) (schedule : SystemSchedule) → AreSlots local (code_slots local schedule)

abbrev pub StructHasItsSlots : Type 0
StructHasItsSlots = (local : LocalSystem) (profile : SystemProfile) (schedule : SystemSchedule) →
    IsStructOf local (code_slots local schedule) (system_code local profile schedule).structure

abbrev pub OutputsHavePlaces : Type 0
OutputsHavePlaces = (local : LocalSystem) (profile : SystemProfile) (schedule : SystemSchedule) →
    IsEmitted local profile schedule →
    AreOutputPlaces local (code_slots local schedule) (system_code local profile schedule).outputs

abbrev pub HeadsArePublic : Type 0
HeadsArePublic = (local : LocalSystem) (profile : SystemProfile) (schedule : SystemSchedule) →
    IsEmitted local profile schedule →
    IsPermutation (public_heads (own_header local profile))
    (filter (λ h. not h.private) (map head_of (system_code local profile schedule).procedures))

-- each procedure reads, stores, tests and calls only what the rules allow
abbrev pub CodeKeepsRules : Type 0
CodeKeepsRules = (local : LocalSystem) (profile : SystemProfile) (schedule : SystemSchedule) →
    IsEmitted local profile schedule →
    AllByRecursion
    (KeepsRules
    (local_names local (code_slots local schedule) (system_code local profile schedule)) local
    (counters_in (code_slots local schedule)))
    (system_code local profile schedule).procedures

-- in its ticks each value is stored, and each function and update of a child called, by one
-- statement
abbrev pub CodeStatesOnce : Type 0
CodeStatesOnce = (local : LocalSystem) (profile : SystemProfile) (schedule : SystemSchedule) →
    IsEmitted local profile schedule →
    StatesOnce (local_names local (code_slots local schedule) (system_code local profile schedule))
    local
    (system_code local profile schedule).procedures

-- each function stores just the outputs that its number gives, itself or through groups
abbrev pub FunctionsGiveTheirOutputs : Type 0
FunctionsGiveTheirOutputs =
    (local : LocalSystem) (profile : SystemProfile) (schedule : SystemSchedule) →
    IsEmitted local profile schedule →
    AllByRecursion
    (λ j. outputs_stored local (code_slots local schedule) (system_code local profile schedule)
    (own_position (system_code local profile schedule) (out_name local.row j))
    ≡ given_rows (own_header local profile) j)
    (range_with_len 1 (length profile.functions))

-- each private procedure is called, and each counter read by a test
abbrev pub CodeIsUsed : Type 0
CodeIsUsed = (local : LocalSystem) (profile : SystemProfile) (schedule : SystemSchedule) →
    IsEmitted local profile schedule →
    AreUsed (local_names local (code_slots local schedule) (system_code local profile schedule))
    (counters_in (code_slots local schedule))
    (system_code local profile schedule).procedures

-- the whole
abbrev pub EmittedCodeHasShape : Type 0
EmittedCodeHasShape = (local : LocalSystem) (profile : SystemProfile) (schedule : SystemSchedule) →
    IsEmitted local profile schedule →
    HasLocalShape local profile (code_slots local schedule) (system_code local profile schedule)
