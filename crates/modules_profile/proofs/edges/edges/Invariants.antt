use Rattle.std.proofs.Common.{◌≡◌, nat_eq, take}
use Rattle.indexmap.specs.IndexMap.{get}
use Rattle.modules_profile.specs.NodeWires.{edges_from}
use Rattle.modules_profile.proofs.edges.edges.Given as goal

abbrev pub invariant-loop-b : goal.invariant-loop-b
invariant-loop-b l = l.edges.items ≡ edges_from (get nat_eq l.givers) 0 (take l.b l.nodes)
