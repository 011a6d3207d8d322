use Rattle.std.proofs.Common.{◌≡◌, ◌++◌, map, take}
use Rattle.diagram_meaning.specs.Nested.{row_of, system_of}
use Rattle.diagram_meaning.specs.ResolvedTree.{diagram_of}
use Rattle.lustre_syntax.specs.Plain.{node_tree}
use Rattle.lustre_system.specs.SystemNodes.{system_node}
use Rattle.lustre_expressions.specs.Found.{place_in}
use Rattle.lustre_expressions.specs.Placed.{placed_by}
use Rattle.lustre_emitter.proofs.system_nodes.push_systems.Given as goal

abbrev pub invariant-loop-system : goal.invariant-loop-system
invariant-loop-system l = map node_tree l.list.items
    ≡ map node_tree l.fn.list.items
    ++ map (λ s. placed_by (place_in l.callees.places.now) (system_node (diagram_of l.r) (row_of (system_of s.now))))
    (take l.system-index l.systems)
