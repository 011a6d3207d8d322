use Rattle.std.proofs.Common.{◌+◌, ◌≤◌}
use Rattle.diagram_meaning.specs.ResolvedTree.{diagram_of}
use Rattle.diagram_same.proofs.SignatureSteps.{IsSum}
use Rattle.diagram_same.proofs.signature.signature_of.Given as goal

abbrev pub invariant-loop-b : goal.invariant-loop-b
invariant-loop-b l = (l.fn.inside.row + 1 ≤ l.b) × IsSum (diagram_of l.r) (l.fn.inside.row + 1) l.b l.sum
