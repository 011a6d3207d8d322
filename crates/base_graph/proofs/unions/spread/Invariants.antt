use Rattle.base_graph.proofs.SpreadSteps.{SpreadLoop}
use Rattle.base_graph.proofs.unions.spread.Given as goal

abbrev pub invariant-loop-at : goal.invariant-loop-at
invariant-loop-at l = SpreadLoop l.g l.a l.at l.initial.masks l.initial.waiting.items l.masks l.waiting.items

abbrev pub decreases-loop-at : goal.decreases-loop-at
decreases-loop-at l = l.at
