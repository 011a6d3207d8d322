use Rattle.diagram_same.specs.Same.{IsMoved}
use Rattle.diagram_same.proofs.AlikeSteps.{AreFirst}
use Rattle.diagram_same.proofs.alike.are_moved.Given as goal

abbrev pub invariant-loop-k : goal.invariant-loop-k
invariant-loop-k l = AreFirst (IsMoved l.e l.f) l.bs l.cs l.k
