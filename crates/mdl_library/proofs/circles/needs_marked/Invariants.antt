use Rattle.std.proofs.Common.{◌≡◌, drop}
use Rattle.std.specs.List.{list_any}
use Rattle.mdl_library.specs.HeldGraph.{marks}
use Rattle.mdl_library.proofs.circles.needs_marked.Given as goal

abbrev pub invariant-loop-edge : goal.invariant-loop-edge
invariant-loop-edge l =
    list_any (marks l.masks l.node) (drop l.edge-index l.graph.edges) ≡ list_any (marks l.fn.masks l.fn.node) l.fn.graph.edges
