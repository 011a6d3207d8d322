use Rattle.std.proofs.Common.{◌≡◌, map, take}
use Rattle.modules_profile.specs.declared.nodes.Node.TheVariants.{Row}
use Rattle.modules_profile.proofs.node_list.own_nodes.Given as goal

abbrev pub invariant-loop-row : goal.invariant-loop-row
invariant-loop-row l = l.list.items ≡ map (λ r. Row r.row) (take l.row-index l.rows)
