use Rattle.std.proofs.Common.{◌+◌, length, sum_by}
use Rattle.diagram_times.specs.Hulls.{room}
use Rattle.diagram_times.specs.Searching.{IsSpread}
use Rattle.diagram_times.proofs.search.spread_all.Given as goal

abbrev pub invariant-loop-a : goal.invariant-loop-a
invariant-loop-a l = IsSpread l.g l.initial.found l.found l.waiting.items 0 0

abbrev pub decreases-loop-a : goal.decreases-loop-a
decreases-loop-a l = sum_by room l.found + length l.waiting.items
