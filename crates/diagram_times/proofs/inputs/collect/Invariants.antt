use Rattle.diagram_times.specs.Collecting.{AreCollected}
use Rattle.diagram_times.proofs.inputs.collect.Given as goal

abbrev pub invariant-loop-b : goal.invariant-loop-b
invariant-loop-b l = AreCollected l.rows l.found l.b l.inside.items
