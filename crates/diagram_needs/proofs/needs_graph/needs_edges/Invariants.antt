use Rattle.diagram_meaning.specs.Needs.{needs_inside}
use Rattle.diagram_meaning.specs.ResolvedTree.{diagram_of}
use Rattle.diagram_needs.specs.Needed.{AreEdgesBelow}
use Rattle.diagram_needs.proofs.needs_graph.needs_edges.Given as goal

abbrev pub invariant-loop-b : goal.invariant-loop-b
invariant-loop-b l = AreEdgesBelow (needs_inside (diagram_of l.fn.r) l.system) l.b l.edges.items
