use Rattle.diagram_types.specs.Walks.{AreSettled}
use Rattle.diagram_types.proofs.follow.settle_path.Given as goal

abbrev pub invariant-loop-b : goal.invariant-loop-b
invariant-loop-b l = AreSettled l.fn.marks l.marks l.path l.b-index l.fn.met
