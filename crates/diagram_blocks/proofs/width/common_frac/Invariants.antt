use Rattle.std.proofs.Common.{◌≡◌, ◌≤◌, max, fold, map, take}
use Rattle.diagram_blocks.proofs.width.common_frac.Given as goal

abbrev pub invariant-loop-t : goal.invariant-loop-t
invariant-loop-t l = (l.most ≡ fold max 0 (map (λ t. t.frac) (take l.t-index l.inputs))) × (l.most ≤ 31)
