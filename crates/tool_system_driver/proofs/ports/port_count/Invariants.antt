use Rattle.std.proofs.Common.{◌≡◌, take}
use Rattle.std.specs.Prelude.{count_by}
use Rattle.tool_system_driver.specs.Ports.{is_port}
use Rattle.diagram_meaning.specs.Rows.{is_own}
use Rattle.tool_system_driver.proofs.ports.port_count.Given as goal

abbrev pub invariant-loop-row : goal.invariant-loop-row
invariant-loop-row l = l.count ≡ count_by (is_own (is_port l.side) l.system) (take l.row-index l.rows)
