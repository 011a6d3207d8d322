use Rattle.std.proofs.Common.{◌≡◌, take}
use Rattle.modules_profile.specs.NodeWires.{wires_of_all}
use Rattle.modules_profile.proofs.node_wires.node_wires.Given as goal

abbrev pub invariant-loop-child : goal.invariant-loop-child
invariant-loop-child l = l.nodes.items ≡ wires_of_all l.rows (take l.child-index l.children)
