-- What is put together: codes of all systems of a model, each right by itself, and what is known of
-- each of them.
use Rattle.std.specs.Prelude.{◌≡◌, ℕ, ◌<◌, List, slice_get, Option, Some}
use Rattle.std.specs.List.{AllByRecursion}
use Rattle.diagram_meaning.specs.Diagram.{Diagram}
use Rattle.diagram_meaning.specs.ResolvedTree.{ResolvedTree, diagram_of}
use Rattle.modules_profile.specs.declared.ChildUse.{ChildUse}
use Rattle.modules_profile.specs.LocalSystem.{LocalSystem}
use Rattle.modules_profile.specs.SystemHeader.{SystemHeader}
use Rattle.modules_profile.specs.SystemProfile.{SystemProfile}
use Rattle.modules_profile.specs.Functions.{IsProfileOf}
use Rattle.modules_profile.specs.Locals.{own_header}
use Rattle.modules_profile.specs.NodeFacts.{IsLocalOf}
use Rattle.modules_profile.specs.Systems.{systems}
use Rattle.c_syntax.specs.Tree.{PureTree, ProgramTree}
use Rattle.emit_prelude.specs.Bodies.{function_trees}
use Rattle.emit_prelude.specs.Rules.{IsPrelude}
use Rattle.emit_shape.specs.SystemTree.{SystemTree}
use Rattle.emit_shape.specs.Slots.{Slot}
use Rattle.emit_shape.specs.LocalShape.{HasLocalShape}
use Rattle.emit_shape.specs.Assembled.{assembled}
use Rattle.right_relation.specs.Relation.{Behaves}
use Rattle.right_claim.specs.Alone.{IsLawfulAlone, HasShortChains}
use Rattle.right_claim.specs.Assembly.{CanAssemble}

-- codes that can be put together, and the functions of the prelude
pub record Parts : Type 0 where
  pub model : ResolvedTree
  pub codes : List SystemTree
  pub root : LocalSystem
  pub hyper : ℕ
  pub pures : List PureTree
  pub can : CanAssemble model codes root hyper
  pub prelude : IsPrelude pures
  pub known : pures ≡ function_trees

abbrev pub program_of : Parts → ProgramTree
program_of a = assembled a.codes a.root a.hyper a.pures

abbrev pub diagram : Parts → Diagram
diagram a = diagram_of a.model

-- root first and then by row, as the codes are
abbrev pub all_systems : Parts → List (Option ℕ)
all_systems a = systems (diagram a).rows

-- a system by its own rows, with its profile, what the fields of its struct are for, and its code
pub record CodedSystem : Type 0 where
  pub local : LocalSystem
  pub profile : SystemProfile
  pub slots : List Slot
  pub code : SystemTree

abbrev pub coded_header : CodedSystem → SystemHeader
coded_header c = own_header c.local c.profile

-- c is the system s, whose code is at this place among the codes, and is right by itself
pub record IsCodedAs (a : Parts) (place : ℕ) (s : Option ℕ) (c : CodedSystem) : Type 0 where
  pub stands : slice_get a.codes place ≡ Some c.code
  pub local : IsLocalOf a.model s c.local
  pub profile : IsProfileOf (diagram a) s c.profile
  pub shape : HasLocalShape c.local c.profile c.slots c.code
  pub behaves : Behaves c.local c.profile c.slots c.code
  pub lawful : IsLawfulAlone c.local c.code
  pub chains : HasShortChains c.local c.code

-- a child is known by the header of its own rows and profile, and is after the system around
-- it, which is at this place
pub record IsChildBehind (a : Parts) (at : Option ℕ → CodedSystem) (place : ℕ)
    (u : ChildUse) : Type 0 where
  pub header : u.header ≡ coded_header (at u.header.row)
  pub inner_place : ℕ
  pub later : place < inner_place
  pub stands : slice_get (all_systems a) inner_place ≡ Some u.header.row

-- what is known of each system
pub record Views (a : Parts) : Type 0 where
  pub at : Option ℕ → CodedSystem
  pub each : (place : ℕ) (s : Option ℕ) → slice_get (all_systems a) place ≡ Some s →
      IsCodedAs a place s (at s)
  pub children : (place : ℕ) (s : Option ℕ) → slice_get (all_systems a) place ≡ Some s →
      AllByRecursion (IsChildBehind a at place) (at s).local.children

-- Systems differ, so a code is found by its system; a system has one profile, and the header of its
-- own rows is the one that the system around it sees.
abbrev pub CodesHaveViews : Type 0
CodesHaveViews = (a : Parts) → Views a
