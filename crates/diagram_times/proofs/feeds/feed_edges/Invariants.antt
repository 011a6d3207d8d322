use Rattle.diagram_times.specs.Feeding.{AreFeedsBelow}
use Rattle.diagram_times.proofs.feeds.feed_edges.Given as goal

abbrev pub invariant-loop-b : goal.invariant-loop-b
invariant-loop-b l = AreFeedsBelow l.rows l.b l.edges.items
