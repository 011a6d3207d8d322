use Rattle.base_graph.proofs.ReleaseSteps.{ReleaseLoop}
use Rattle.base_graph.proofs.one_order.release.Given as goal

abbrev pub invariant-loop-at : goal.invariant-loop-at
invariant-loop-at l = ReleaseLoop l.g l.x l.at l.initial.unmet.items l.initial.ready.keys l.unmet.items l.ready.keys

abbrev pub decreases-loop-at : goal.decreases-loop-at
decreases-loop-at l = l.at
