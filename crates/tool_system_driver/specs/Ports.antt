-- The rows of a system that are its ports.
use Rattle.std.specs.Prelude.{ℕ, Bool, ◌==◌, ◌&&◌, Option}
use Rattle.diagram_blocks.specs.declared.Kind.{Kind}
use Rattle.diagram_meaning.specs.declared.table.Row.{Row}
use Rattle.diagram_meaning.specs.Rows.{same_system, is_own}
use Rattle.diagram_blocks.specs.Kinds.{is_inport, is_outport, port_of}
use Rattle.tool_system_driver.specs.declared.ports.Side.{Side}
use Rattle.tool_system_driver.specs.declared.ports.Side.TheVariants.{Inputs, Outputs}

-- the test of the kinds on a side of a system
abbrev pub is_port : Side → Kind → Bool
is_port Inputs = is_inport
is_port Outputs = is_outport

-- whether it is the one with this port
abbrev pub is_at : (Kind → Bool) → Option ℕ → ℕ → Row → Bool
is_at test s port row = is_own test s row && (port_of row.kind == port)
