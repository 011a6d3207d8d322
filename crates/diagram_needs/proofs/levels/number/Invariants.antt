use Rattle.diagram_needs.proofs.NumberSteps.{NumberLoop}
use Rattle.diagram_needs.proofs.levels.number.Given as goal

abbrev pub invariant-loop-place : goal.invariant-loop-place
invariant-loop-place l = NumberLoop l.g l.a l.count l.place l.initial.steps l.initial.next.items l.steps l.next.items

abbrev pub decreases-loop-place : goal.decreases-loop-place
decreases-loop-place l = l.place
