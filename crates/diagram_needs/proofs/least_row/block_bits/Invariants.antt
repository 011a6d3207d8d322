use Rattle.diagram_needs.specs.Blocks.{AreBlockBits}
use Rattle.diagram_needs.proofs.least_row.block_bits.Given as goal

abbrev pub invariant-loop-b : goal.invariant-loop-b
invariant-loop-b l = AreBlockBits l.b l.first l.bits.items
