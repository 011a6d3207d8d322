-- The code of a system is right by itself.
use Rattle.modules_profile.specs.LocalSystem.{LocalSystem}
use Rattle.modules_profile.specs.SystemProfile.{SystemProfile}
use Rattle.modules_schedule.specs.SystemSchedule.{SystemSchedule}
use Rattle.emit_system_spec.specs.Emitted.{IsEmitted}
use Rattle.emit_system_spec.specs.EmittedCode.{system_code}
use Rattle.right_claim.specs.SystemOk.{SystemOk}

abbrev pub EmittedCodeIsOk : Type 0
EmittedCodeIsOk = (local : LocalSystem) (profile : SystemProfile) (schedule : SystemSchedule) →
    IsEmitted local profile schedule →
    SystemOk local profile (system_code local profile schedule)
