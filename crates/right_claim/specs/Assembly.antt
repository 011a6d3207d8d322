-- Codes of all systems of a model, each right by itself.
use Rattle.std.specs.Prelude.{◌≡◌, ℕ, List, Option, None}
use Rattle.std.specs.List.{AllZip}
use Rattle.diagram_meaning.specs.Needs.{needs_of, HasNoLoop}
use Rattle.diagram_meaning.specs.ResolvedTree.{ResolvedTree, IsResolvedTree, diagram_of}
use Rattle.modules_profile.specs.LocalSystem.{LocalSystem}
use Rattle.modules_profile.specs.Systems.{systems}
use Rattle.emit_shape.specs.SystemTree.{SystemTree}
use Rattle.emit_shape.specs.ProgramShape.{SystemView, viewed}
use Rattle.right_claim.specs.SystemOk.{SystemOk}

-- a code that is right for the system s; the view has the headers of its children, each that of the
-- child's own rows and profile
pub record IsCodeOf (r : ResolvedTree) (s : Option ℕ) (code : SystemTree) : Type 0 where
  pub view : SystemView (diagram_of r) r.times.delays s
  pub ok : SystemOk (viewed view) view.profile code

-- what systems' codes must be to be put together, root first and then by row
pub record CanAssemble (r : ResolvedTree) (codes : List SystemTree) (root : LocalSystem)
    (hyper : ℕ) : Type 0 where
  pub resolved : IsResolvedTree r
  pub no_loop : HasNoLoop (needs_of (diagram_of r))
  pub each : AllZip (IsCodeOf r) (systems (diagram_of r).rows) codes
  pub root_view : SystemView (diagram_of r) r.times.delays None
  pub is_root : root ≡ viewed root_view
  pub is_cycle : hyper ≡ r.times.hyper
