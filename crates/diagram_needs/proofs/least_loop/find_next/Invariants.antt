use Rattle.diagram_needs.proofs.LeastPathSteps.{NextLoop}
use Rattle.diagram_needs.proofs.least_loop.find_next.Given as goal

abbrev pub invariant-loop-edge : goal.invariant-loop-edge
invariant-loop-edge l = NextLoop l.g.edges l.steps l.next l.edge-index
