-- Systems of right code that can be driven.
use Rattle.std.specs.Prelude.{◌≡◌, ℕ}
use Rattle.diagram_meaning.specs.ResolvedTable.{ResolvedTable, IsResolvedTable, diagram_of_table}
use Rattle.diagram_meaning.specs.WellFormed.{IsWellFormed}
use Rattle.c_syntax.specs.Lawful.{IsLawful}
use Rattle.tool_driver.specs.Drivable.{IsDrivable}
use Rattle.tool_driver.specs.Driven.{Driven, shape_of}
use Rattle.right_driving.specs.Found.{IsInstanceOf}

-- the system is one of a model within the limits, whose types and times are resolved
pub record IsOfModel (w : Driven) (r : ResolvedTable) : Type 0 where
  pub formed : IsWellFormed r.table
  pub resolved : IsResolvedTable r
  pub diagram : diagram_of_table r ≡ w.diagram
  pub hyper : r.times.hyper ≡ w.hyper

-- its instance has the procedures and fields of its shape, and the shape is within a driver's
-- limits
abbrev pub RightCodeIsDrivable : Type 0
RightCodeIsDrivable =
    (w : Driven) (r : ResolvedTable) (number : ℕ) → IsOfModel w r → IsLawful w.program →
    IsInstanceOf w.program w.diagram.rows w.system number → IsDrivable w.program number (shape_of w)
