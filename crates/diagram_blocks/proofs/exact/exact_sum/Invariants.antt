use Rattle.diagram_blocks.proofs.SoFar.{IsSumSoFar}
use Rattle.diagram_blocks.proofs.exact.exact_sum.Given as goal

abbrev pub invariant-loop-i : goal.invariant-loop-i
invariant-loop-i l = IsSumSoFar l.minus l.common l.fracs l.inputs l.i l.sum
