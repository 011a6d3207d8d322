-- What contracts see of a layout.
use Rattle.modules_profile.specs.LocalSystem.{LocalSystem}
use Rattle.modules_profile.specs.SystemProfile.{SystemProfile}
use Rattle.modules_schedule.specs.SystemSchedule.{SystemSchedule}

-- a system with its profile and its schedule
pub record Laid : Type 0 where
  pub local : LocalSystem
  pub profile : SystemProfile
  pub schedule : SystemSchedule

-- a system with its schedule
pub record Scheduled : Type 0 where
  pub local : LocalSystem
  pub schedule : SystemSchedule
