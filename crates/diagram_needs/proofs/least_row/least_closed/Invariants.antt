use Rattle.base_graph.specs.EdgeChains.{to}
use Rattle.diagram_needs.specs.Least.{IsLeastOf}
use Rattle.diagram_needs.proofs.LeastSteps.{IsAmong}
use Rattle.diagram_needs.proofs.BlockSteps.{Closes}
use Rattle.diagram_needs.proofs.least_row.least_closed.Given as goal

abbrev pub invariant-loop-edge : goal.invariant-loop-edge
invariant-loop-edge l = IsLeastOf (IsAmong (Closes l.g l.first l.reached) (to l.g.edges) l.edge-index) l.least
