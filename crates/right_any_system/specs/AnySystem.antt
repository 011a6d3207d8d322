-- What each system of a resolved model without a loop has, whatever the model.
use Rattle.std.specs.Prelude.{ℕ, Contains, Option}
use Rattle.diagram_meaning.specs.Needs.{needs_of, HasNoLoop}
use Rattle.diagram_meaning.specs.ResolvedTree.{ResolvedTree, IsResolvedTree, diagram_of}
use Rattle.modules_profile.specs.LocalSystem.{LocalSystem}
use Rattle.modules_profile.specs.SystemProfile.{SystemProfile}
use Rattle.modules_profile.specs.Functions.{IsProfileOf}
use Rattle.modules_profile.specs.NodeFacts.{IsLocalOf}
use Rattle.modules_profile.specs.Systems.{systems}
use Rattle.modules_schedule.specs.SystemSchedule.{SystemSchedule}
use Rattle.emit_system_spec.specs.Emitted.{IsEmitted}

-- the system s by its own rows, its profile and its schedule
pub record EmittedSystem (r : ResolvedTree) (s : Option ℕ) : Type 0 where
  pub local : LocalSystem
  pub profile : SystemProfile
  pub schedule : SystemSchedule
  pub is_local : IsLocalOf r s local
  pub is_profile : IsProfileOf (diagram_of r) s profile
  pub is_emitted : IsEmitted local profile schedule

abbrev pub EachSystemIsEmitted : Type 0
EachSystemIsEmitted = (r : ResolvedTree) (s : Option ℕ) → IsResolvedTree r →
    HasNoLoop (needs_of (diagram_of r)) →
    Contains (systems (diagram_of r).rows) s → EmittedSystem r s
