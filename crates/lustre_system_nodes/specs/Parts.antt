-- What the node of a system is made from.
use Rattle.std.specs.Prelude.{◌≡◌, List, map}
use Rattle.diagram_meaning.specs.declared.table.Row.{Row}
use Rattle.diagram_meaning.specs.Inputs.{input_ports}
use Rattle.diagram_meaning.specs.Rows.{rows_of, outports_of, system_control}
use Rattle.lustre_system_nodes.specs.declared.parts.Parts.{Parts}
use Rattle.lustre_system_nodes.specs.OwnRows.{own_row}

-- the parts are those of the system of their row
pub record ArePartsOf (rows : List Row) (parts : Parts) : Type 0 where
  pub control : parts.control ≡ system_control rows parts.row
  pub ports : parts.ports.items ≡ input_ports rows parts.row
  pub outputs : parts.outputs ≡ outports_of rows parts.row
  pub own : parts.own.items ≡ map (own_row rows) (rows_of rows parts.row)
