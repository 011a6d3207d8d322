use Rattle.std.proofs.Common.{◌≡◌, take}
use Rattle.diagram_blocks.specs.Value.{greatest_in}
use Rattle.diagram_blocks.proofs.evaluate.greatest_frac.Given as goal

abbrev pub invariant-loop-frac : goal.invariant-loop-frac
invariant-loop-frac l = l.most ≡ greatest_in (take l.frac-index l.fracs)
