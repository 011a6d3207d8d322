use Rattle.std.proofs.Common.{◌≡◌}
use Rattle.diagram_meaning.specs.Diagram.{type_at}
use Rattle.diagram_same.proofs.AlikeSteps.{AreFirst}
use Rattle.diagram_same.proofs.alike.have_equal_types.Given as goal

abbrev pub invariant-loop-k : goal.invariant-loop-k
invariant-loop-k l = AreFirst (λ b c. type_at l.r.types b ≡ type_at l.r.types c) l.bs l.cs l.k
