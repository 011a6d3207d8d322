use Rattle.std.proofs.Common.{◌≡◌}
use Rattle.diagram_needs.proofs.OutportSteps.{own_below}
use Rattle.diagram_needs.proofs.outports.own_outports.Given as goal

abbrev pub invariant-loop-b : goal.invariant-loop-b
invariant-loop-b l = l.own.items ≡ own_below l.rows l.system l.b
