use Rattle.modules_profile.specs.NodeInputs.{AreInputBits}
use Rattle.modules_profile.proofs.needs.input_bits.Given as goal

abbrev pub invariant-loop-a : goal.invariant-loop-a
invariant-loop-a l = AreInputBits l.rows l.a l.bits.items
