use Rattle.std.proofs.Common.{◌≡◌, ◌<◌, ℕ, false}
use Rattle.diagram_meaning.specs.Rows.{row_at}
use Rattle.tool_system_driver.specs.Ports.{is_at, is_port}
use Rattle.tool_system_driver.proofs.ports.row_with.Given as goal

abbrev pub invariant-loop-b : goal.invariant-loop-b
invariant-loop-b l = (k : ℕ) → k < l.b → is_at (is_port l.side) l.system l.port (row_at l.rows k) ≡ false
