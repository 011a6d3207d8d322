use Rattle.modules_clusters.specs.ClassBits.{AreClassBits}
use Rattle.modules_clusters.proofs.reaching.class_bits.Given as goal

abbrev pub invariant-loop-i : goal.invariant-loop-i
invariant-loop-i l = AreClassBits l.n l.outputs l.class l.i l.bits.items
