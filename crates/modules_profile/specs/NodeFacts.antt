-- What nodes have to do with rows: the laws on which profiles rest.
use Rattle.std.specs.Prelude.{◌≡◌, ◌↔◌, ℕ, ◌≤◌, Bool, List, length, map, Option, Some, Contains}
use Rattle.base_core.specs.Interface.{Interface, IsInterface, IsExact, output_functions}
use Rattle.diagram_meaning.specs.Rows.{subsystems_of, outports_of}
use Rattle.diagram_meaning.specs.Diagram.{Diagram}
use Rattle.diagram_meaning.specs.Needs.{needs_of, needs_inside, Reaches, HasNoLoop, AreTrueNeeds}
use Rattle.diagram_meaning.specs.ResolvedTree.{ResolvedTree, IsResolvedTree, diagram_of}
use Rattle.modules_profile.specs.declared.nodes.Node.TheVariants.{Row}
use Rattle.modules_profile.specs.SystemHeader.{SystemHeader}
use Rattle.modules_profile.specs.LocalSystem.{LocalSystem}
use Rattle.modules_profile.specs.SystemProfile.{SystemProfile}
use Rattle.modules_profile.specs.Functions.{IsProfileOf}
use Rattle.modules_profile.specs.Headers.{header_of}
use Rattle.modules_profile.specs.Locals.{local_of, own_header}
use Rattle.modules_profile.specs.LawfulLocals.{IsLocal}
use Rattle.modules_profile.specs.LocalNodes.{NodeReaches, HasNoNodeLoop}

-- these are the headers of the children of s in order, each with the profile of its system
pub record AreHeaders (d : Diagram) (s : Option ℕ) (headers : List SystemHeader) : Type 0 where
  pub rows : map (λ h. h.row) headers ≡ map Some (subsystems_of d.rows s)
  pub each : (h : SystemHeader) → Contains headers h →
      (h ≡ header_of d h.row h.profile) × IsProfileOf d h.row h.profile

-- these are the profiles of the children of s in order
pub record AreProfiles (d : Diagram) (s : Option ℕ) (profiles : List SystemProfile) : Type 0 where
  pub rows : map (λ p. p.row) profiles ≡ map Some (subsystems_of d.rows s)
  pub each : (p : SystemProfile) → Contains profiles p → IsProfileOf d p.row p

-- the headers of systems with these profiles
abbrev pub headers_with : Diagram → List SystemProfile → List SystemHeader
headers_with d profiles = map (λ p. header_of d p.row p) profiles

-- this is a system of a resolved model, by its own rows, with the headers of its children
pub record IsLocalOf (r : ResolvedTree) (s : Option ℕ) (local : LocalSystem) : Type 0 where
  pub headers : List SystemHeader
  pub are_headers : AreHeaders (diagram_of r) s headers
  pub is_local : local ≡ local_of (diagram_of r) r.times.delays s headers

-- Rows and nodes agree: an own row reaches an Outport of s inside s by rows exactly where its node
-- does by nodes.
abbrev pub NodesReachAsRows : Type 0
NodesReachAsRows = (r : ResolvedTree) (s : Option ℕ) (local : LocalSystem) (o b : ℕ) →
    IsResolvedTree r → IsLocalOf r s local →
    Contains (outports_of (diagram_of r).rows s) o → Contains (map (λ own. own.row) local.rows) b →
    Reaches (needs_inside (diagram_of r) s) o b ↔ NodeReaches local (Row b) (Row o)

-- a model without a loop of rows has no loop of nodes
abbrev pub NodesHaveNoLoop : Type 0
NodesHaveNoLoop = (r : ResolvedTree) (s : Option ℕ) (local : LocalSystem) → IsResolvedTree r →
    IsLocalOf r s local →
    HasNoLoop (needs_of (diagram_of r)) → HasNoNodeLoop local

-- what a resolved model has as its local systems is lawful
abbrev pub LocalsAreLawful : Type 0
LocalsAreLawful = (r : ResolvedTree) (s : Option ℕ) (local : LocalSystem) → IsResolvedTree r →
    IsLocalOf r s local → IsLocal local

-- a system has one profile, and one list of headers of its children
abbrev pub ProfilesAreOne : Type 0
ProfilesAreOne = (d : Diagram) (s : Option ℕ) (p q : SystemProfile) → IsProfileOf d s p →
    IsProfileOf d s q → p ≡ q

abbrev pub HeadersAreOne : Type 0
HeadersAreOne = (d : Diagram) (s : Option ℕ) (headers others : List SystemHeader) →
    AreHeaders d s headers → AreHeaders d s others → headers ≡ others

-- every exact interface for what the outputs of a system need has at least as many output functions
-- as its profile
abbrev pub ProfilesAreLeast : Type 0
ProfilesAreLeast =
    (d : Diagram) (s : Option ℕ) (profile : SystemProfile) (needs : List ℕ)
    (interface : Interface) → IsProfileOf d s profile →
    AreTrueNeeds d s needs → IsInterface interface → IsExact interface needs →
    length profile.functions ≤ output_functions interface

-- the header that a system has by its own rows is the one that the system around it sees
abbrev pub HeaderIsOfOwnRows : Type 0
HeaderIsOfOwnRows =
    (d : Diagram) (delays : List Bool) (s : Option ℕ) (headers : List SystemHeader)
    (profile : SystemProfile) →
    own_header (local_of d delays s headers) profile ≡ header_of d s profile
