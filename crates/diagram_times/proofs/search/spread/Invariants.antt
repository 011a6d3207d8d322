use Rattle.diagram_times.proofs.SpreadSteps.{SpreadLoop}
use Rattle.diagram_times.proofs.search.spread.Given as goal

abbrev pub invariant-loop-place : goal.invariant-loop-place
invariant-loop-place l = SpreadLoop l.g l.a l.place l.initial.found l.initial.waiting.items l.found l.waiting.items

abbrev pub decreases-loop-place : goal.decreases-loop-place
decreases-loop-place l = l.place
