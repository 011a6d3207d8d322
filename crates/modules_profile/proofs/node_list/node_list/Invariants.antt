use Rattle.std.proofs.Common.{◌≡◌, ◌++◌, map, take}
use Rattle.std.specs.List.{flat_map}
use Rattle.modules_profile.specs.declared.nodes.Node.TheVariants.{Row}
use Rattle.modules_profile.specs.LocalNodes.{call_nodes}
use Rattle.modules_profile.proofs.node_list.node_list.Given as goal

abbrev pub invariant-loop-child : goal.invariant-loop-child
invariant-loop-child l = l.list.items ≡ map (λ r. Row r.row) l.rows ++ flat_map call_nodes (take l.child-index l.children)
