use Rattle.std.proofs.Common.{◌≡◌, ◌≤◌, ◌+◌, ◌-◌, max, fold, map, take}
use Rattle.diagram_blocks.specs.Width.{magnitude_bits}
use Rattle.diagram_blocks.proofs.width.common_bits.Given as goal

abbrev pub invariant-loop-t : goal.invariant-loop-t
invariant-loop-t l = (l.most ≡ fold max 0 (map (λ t. magnitude_bits t + (l.frac - t.frac)) (take l.t-index l.inputs))) × (l.most ≤ 63)
