use Rattle.diagram_needs.specs.TrueNeeds.{AreInputBits}
use Rattle.diagram_needs.proofs.true_needs.input_bits.Given as goal

abbrev pub invariant-loop-b : goal.invariant-loop-b
invariant-loop-b l = AreInputBits l.rows l.system l.b l.bits.items
