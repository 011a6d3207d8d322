-- What contracts see of a system by its own rows.
use Rattle.std.specs.Prelude.{ℕ, List, Option}
use Rattle.base_core.specs.declared.Control.{Control}
use Rattle.base_fixed_point.specs.declared.FixType.{FixType}
use Rattle.modules_profile.specs.declared.local.ChildUse.{ChildUse}
use Rattle.modules_profile.specs.declared.local.LocalRow.{LocalRow}

-- a system by its own rows and its children
pub record LocalSystem : Type 0 where
  pub row : Option ℕ
  pub control : Control
  pub controls : List FixType
  pub rows : List LocalRow
  pub children : List ChildUse
