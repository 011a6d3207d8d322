-- The profiles of the systems inside a nested system.
use Rattle.std.specs.Prelude.{◌≡◌, List, map, flat_map, All}
use Rattle.diagram_meaning.specs.Diagram.{Diagram}
use Rattle.diagram_meaning.specs.Nested.{System}
use Rattle.modules_profile.specs.Functions.{IsProfileOf}
use Rattle.modules_profile.specs.SystemProfile.{SystemProfile}
use Rattle.modules_profile.specs.Systems.{children_of}
use Rattle.modules_profile.specs.TreeProfiles.{rows_inside}

-- those of the systems below these, each before those inside it
pub record AreProfilesUnder (d : Diagram) (children : List System)
    (profiles : List SystemProfile) : Type 0 where
  pub rows : map (λ p. p.row) profiles ≡ flat_map rows_inside children
  pub each : All (λ p. IsProfileOf d p.row p) profiles

-- those of all systems inside a system
abbrev pub AreProfilesBelow : Diagram → System → List SystemProfile → Type 0
AreProfilesBelow d s profiles = AreProfilesUnder d (children_of s) profiles
