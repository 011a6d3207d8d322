use Rattle.std.proofs.Common.{slice_index}
use Rattle.diagram_needs.specs.Needed.{needed}
use Rattle.diagram_needs.proofs.LeastPathSteps.{IsOnWay}
use Rattle.diagram_needs.proofs.least_loop.follow.Given as goal

abbrev pub invariant-loop-next : goal.invariant-loop-next
invariant-loop-next l = IsOnWay (needed l.g) l.row l.steps l.row l.at l.rows.items

abbrev pub decreases-loop-next : goal.decreases-loop-next
decreases-loop-next l = slice_index l.steps l.at
