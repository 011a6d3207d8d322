use Rattle.std.proofs.Common.{◌+◌, length, sum_by}
use Rattle.base_graph.specs.Placing.{IsPlacing}
use Rattle.base_graph.proofs.one_order.place.Given as goal

abbrev pub invariant-loop-x : goal.invariant-loop-x
invariant-loop-x l = IsPlacing l.g l.placed.items l.unmet.items l.ready.keys

abbrev pub decreases-loop-x : goal.decreases-loop-x
decreases-loop-x l = length l.ready.keys + sum_by (λ count. count) l.unmet.items
