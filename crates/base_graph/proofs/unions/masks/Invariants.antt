use Rattle.std.proofs.Common.{◌+◌, ◌-◌, ◌*◌, ◌^◌, length, sum_by}
use Rattle.base_graph.specs.Spread.{IsSpread}
use Rattle.base_graph.proofs.unions.masks.Given as goal

abbrev pub invariant-loop-a : goal.invariant-loop-a
invariant-loop-a l = IsSpread l.g l.source l.masks.items l.waiting.items 0 0

abbrev pub decreases-loop-a : goal.decreases-loop-a
decreases-loop-a l = l.g.n * 2 ^ 64 - sum_by (λ mask. mask) l.masks.items + length l.waiting.items
