use Rattle.std.proofs.Common.{◌≡◌, map, take}
use Rattle.diagram_meaning.specs.Run.{value_at}
use Rattle.test_solver.proofs.reading.wire_values.Given as goal

abbrev pub invariant-loop-wire : goal.invariant-loop-wire
invariant-loop-wire l = l.read.items ≡ map (value_at l.values) (take l.wire-index l.wires)
