use Rattle.base_graph.proofs.Counts.{CountsUpTo}
use Rattle.base_graph.proofs.needs.count_needs.Given as goal

abbrev pub invariant-loop-edge : goal.invariant-loop-edge
invariant-loop-edge l = CountsUpTo l.g l.edge-index l.unmet.items
