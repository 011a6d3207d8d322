use Rattle.std.proofs.Common.{◌≡◌, [], map, drop}
use Rattle.lustre_syntax.specs.Plain.{node_tree}
use Rattle.lustre_flows.specs.Instances.{by_node}
use Rattle.lustre_slots.specs.Layout.{node_size}
use Rattle.lustre_slots.specs.Extents.{slots_in}
use Rattle.lustre_slots.proofs.extents.extents_of.Given as goal

abbrev pub invariant-loop-node : goal.invariant-loop-node
invariant-loop-node l =
    by_node node_size (slots_in l.extents.items) (map node_tree (drop l.node-index l.nodes))
    ≡ by_node node_size [] (map node_tree l.nodes)
