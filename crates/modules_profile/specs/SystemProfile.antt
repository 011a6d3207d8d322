-- What contracts see of a profile.
use Rattle.std.specs.Prelude.{ℕ, List, Option}
use Rattle.modules_profile.specs.declared.profile.Function.{Function}

-- the output functions of a system, numbered from 1 in this order
pub record SystemProfile : Type 0 where
  pub row : Option ℕ
  pub functions : List Function
