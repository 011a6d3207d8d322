-- Codes of all systems of a model, whatever the model.
use Rattle.std.specs.Prelude.{◌≡◌}
use Rattle.diagram_meaning.specs.Needs.{needs_of, HasNoLoop}
use Rattle.diagram_meaning.specs.ResolvedTree.{ResolvedTree, IsResolvedTree, diagram_of}
use Rattle.modules_profile.specs.LocalSystem.{LocalSystem}
use Rattle.modules_profile.specs.SystemProfile.{SystemProfile}
use Rattle.modules_schedule.specs.SystemSchedule.{SystemSchedule}
use Rattle.emit_shape.specs.SystemTree.{SystemTree}
use Rattle.emit_system_spec.specs.Emitted.{IsEmitted}
use Rattle.right_claim.specs.SystemOk.{SystemOk}
use Rattle.right_linking.specs.Parts.{Parts}

-- a system's code, by its own rows, its profile and its schedule
abbrev pub SystemCodes : Type 0
SystemCodes = LocalSystem → SystemProfile → SystemSchedule → SystemTree

-- the code of each system is right by itself
abbrev pub AreOk : SystemCodes → Type 0
AreOk code = (local : LocalSystem) (profile : SystemProfile) (schedule : SystemSchedule) →
    IsEmitted local profile schedule → SystemOk local profile (code local profile schedule)

-- what a model's program is put together from
pub record ModelParts (r : ResolvedTree) : Type 0 where
  pub parts : Parts
  pub is_model : parts.model ≡ r
  pub is_cycle : parts.hyper ≡ r.times.hyper

abbrev pub ModelsHaveParts : Type 0
ModelsHaveParts = (code : SystemCodes) → AreOk code → (r : ResolvedTree) → IsResolvedTree r →
    HasNoLoop (needs_of (diagram_of r)) → ModelParts r
