-- Outports among those of their system.
use Rattle.std.proofs.Common.{◌≡◌, ℕ, ◌-◌, true, List, Option}
use Rattle.std.specs.Prelude.{Contains}
use Rattle.diagram_blocks.specs.Kinds.{is_outport, port_of}
use Rattle.diagram_meaning.specs.declared.table.Row.{Row}
use Rattle.diagram_meaning.specs.Rows.{row_at, outports_of}
use Rattle.diagram_meaning.specs.SystemRuns.{IsRowOf}
use Rattle.diagram_meaning.specs.WellFormed.{HasPorts}
use Rattle.modules_profile.proofs.lemmas.Members.{in-at}
use Rattle.modules_profile.proofs.lemmas.PortRows.{port-place}

pub outport-in : (rows : List Row) (s : Option ℕ) (b : ℕ) → HasPorts rows is_outport s → IsRowOf rows s b →
    is_outport (row_at rows b).kind ≡ true → Contains (outports_of rows s) b
outport-in rows s b ports row is =
    in-at (outports_of rows s) (port_of (row_at rows b).kind - 1) b (port-place rows s is_outport ports b row.in_table row.own is)
