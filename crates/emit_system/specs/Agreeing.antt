-- A profile and a schedule that are of one system.
use Rattle.std.specs.Prelude.{◌≡◌, ◌<◌, All, length}
use Rattle.modules_profile.specs.LocalSystem.{LocalSystem}
use Rattle.modules_profile.specs.SystemProfile.{SystemProfile}
use Rattle.modules_schedule.specs.SystemSchedule.{SystemSchedule}
use Rattle.emit_system_spec.specs.Emitted.{IsEmitted}

-- each function of the profile has its groups, which are groups of the schedule
pub record AgreeOnFunctions (profile : SystemProfile) (schedule : SystemSchedule) : Type 0 where
  pub functions : length schedule.functions ≡ length profile.functions
  pub groups : All (All (λ g. g < length schedule.groups)) schedule.functions

-- those of a system's code do
abbrev pub EmittedAgree : Type 0
EmittedAgree = (local : LocalSystem) (profile : SystemProfile) (schedule : SystemSchedule) →
    IsEmitted local profile schedule → AgreeOnFunctions profile schedule
