-- What the code of a system is made from: a system of a resolved model without a loop, its profile
-- and its schedule.
use Rattle.std.specs.Prelude.{Contains}
use Rattle.diagram_meaning.specs.Needs.{needs_of, HasNoLoop}
use Rattle.diagram_meaning.specs.ResolvedTree.{ResolvedTree, IsResolvedTree, diagram_of}
use Rattle.modules_profile.specs.LocalSystem.{LocalSystem}
use Rattle.modules_profile.specs.SystemProfile.{SystemProfile}
use Rattle.modules_profile.specs.Functions.{IsProfileOf}
use Rattle.modules_profile.specs.NodeFacts.{IsLocalOf}
use Rattle.modules_profile.specs.Systems.{systems}
use Rattle.modules_schedule.specs.SystemSchedule.{SystemSchedule}
use Rattle.emit_system_spec.specs.Schedules.{IsScheduleOf}
use Rattle.emit_system_spec.specs.Emittable.{IsEmittable}

pub record IsEmitted (local : LocalSystem) (profile : SystemProfile)
    (schedule : SystemSchedule) : Type 0 where
  pub resolved : ResolvedTree
  pub is_resolved : IsResolvedTree resolved
  pub no_loop : HasNoLoop (needs_of (diagram_of resolved))
  pub is_system : Contains (systems (diagram_of resolved).rows) local.row
  pub is_local : IsLocalOf resolved local.row local
  pub is_profile : IsProfileOf (diagram_of resolved) local.row profile
  pub is_schedule : IsScheduleOf local profile schedule

-- its operations and starts can be written, and 32 bits number its ports, fields and procedures
abbrev pub EmittedIsEmittable : Type 0
EmittedIsEmittable = (local : LocalSystem) (profile : SystemProfile) (schedule : SystemSchedule) →
    IsEmitted local profile schedule →
    IsEmittable local schedule
