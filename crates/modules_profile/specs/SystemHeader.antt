-- What contracts see of a header.
use Rattle.std.specs.Prelude.{ℕ, List, Option}
use Rattle.base_core.specs.declared.Control.{Control}
use Rattle.base_fixed_point.specs.declared.FixType.{FixType}
use Rattle.modules_profile.specs.SystemProfile.{SystemProfile}

-- a system as the system around it sees it
pub record SystemHeader : Type 0 where
  pub row : Option ℕ
  pub control : Control
  pub inputs : List FixType
  pub controls : List FixType
  pub outputs : List (ℕ × FixType)
  pub profile : SystemProfile
