-- What rows read of a row of a trace.
use Rattle.std.specs.Prelude.{ℕ, ◌<◌, List, length, Option, ℤ}
use Rattle.base_core.specs.declared.Port.TheVariants.{Number}
use Rattle.base_fixed_point.specs.Conversion.{InType}
use Rattle.diagram_meaning.specs.Rows.{column}
use Rattle.diagram_meaning.specs.Diagram.{Diagram, type_at}
use Rattle.diagram_meaning.specs.Needs.{IsInputRow}
use Rattle.diagram_meaning.specs.Run.{value_at}

-- there is a number for each Inport of the system s, by its port, and it lies in that Inport's type
abbrev pub HasInputs : Diagram → Option ℕ → List ℤ → Type 0
HasInputs d s x = (port b : ℕ) → IsInputRow d.rows s port b →
    (column d.rows s (Number port) < length x)
    × InType (type_at d.types b) (value_at x (column d.rows s (Number port)))
