use Rattle.std.proofs.Common.{◌≡◌, map, take}
use Rattle.modules_profile.specs.NodeWires.{wires_of_row}
use Rattle.modules_profile.proofs.node_wires.row_wires.Given as goal

abbrev pub invariant-loop-row : goal.invariant-loop-row
invariant-loop-row l = l.nodes.items ≡ map wires_of_row (take l.row-index l.rows)
