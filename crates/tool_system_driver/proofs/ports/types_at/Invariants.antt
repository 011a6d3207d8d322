use Rattle.std.proofs.Common.{◌≡◌, map, take}
use Rattle.diagram_meaning.specs.Types.{type_at}
use Rattle.tool_system_driver.proofs.ports.types_at.Given as goal

abbrev pub invariant-loop-b : goal.invariant-loop-b
invariant-loop-b l = l.found.items ≡ map (type_at l.types) (take l.b-index l.rows)
