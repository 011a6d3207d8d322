use Rattle.std.proofs.Common.{◌≡◌, ◌++◌, map, take}
use Rattle.modules_profile.specs.Headers.{header_functions}
use Rattle.modules_profile.specs.NodeWires.{wires_of_call}
use Rattle.modules_profile.proofs.node_wires.push_calls.Given as goal

abbrev pub invariant-loop-function : goal.invariant-loop-function
invariant-loop-function l =
    l.nodes.items
    ≡ l.initial.nodes.items ++ map (wires_of_call l.child) (take l.function-index (header_functions l.child.header))
