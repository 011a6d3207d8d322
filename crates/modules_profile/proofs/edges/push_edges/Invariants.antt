use Rattle.std.proofs.Common.{◌≡◌, ◌++◌, nat_eq, take}
use Rattle.std.specs.List.{filter_map}
use Rattle.indexmap.specs.IndexMap.{get}
use Rattle.modules_profile.specs.NodeWires.{edge_by}
use Rattle.modules_profile.proofs.edges.push_edges.Given as goal

abbrev pub invariant-loop-wire : goal.invariant-loop-wire
invariant-loop-wire l = l.edges.items ≡ l.initial.edges.items ++ filter_map (edge_by (get nat_eq l.givers) l.b) (take l.wire-index l.needs)
