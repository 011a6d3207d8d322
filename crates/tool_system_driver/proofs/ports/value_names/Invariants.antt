use Rattle.std.proofs.Common.{◌≡◌, map, take}
use Rattle.emit_shape.specs.Names.{value_name}
use Rattle.tool_system_driver.proofs.ports.value_names.Given as goal

abbrev pub invariant-loop-b : goal.invariant-loop-b
invariant-loop-b l = l.names.items ≡ map value_name (take l.b-index l.rows)
