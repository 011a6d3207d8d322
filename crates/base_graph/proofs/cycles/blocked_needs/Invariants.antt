use Rattle.base_graph.proofs.PathSteps.{NeedsUpTo}
use Rattle.base_graph.proofs.cycles.blocked_needs.Given as goal

abbrev pub invariant-loop-edge : goal.invariant-loop-edge
invariant-loop-edge l = NeedsUpTo l.g l.unmet l.needs.items l.edge-index
