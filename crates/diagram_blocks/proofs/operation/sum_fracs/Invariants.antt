use Rattle.std.proofs.Common.{◌≡◌, ◌-◌, ◌++◌, map, take, replicate}
use Rattle.diagram_blocks.proofs.operation.sum_fracs.Given as goal

abbrev pub invariant-loop-i : goal.invariant-loop-i
invariant-loop-i l = l.fracs ≡ map (λ t. t.frac) (take l.i l.inputs) ++ replicate (16 - l.i) 0
