use Rattle.diagram_times.specs.Bases.{AreGiven}
use Rattle.diagram_times.proofs.given.given_times.Given as goal

abbrev pub invariant-loop-b : goal.invariant-loop-b
invariant-loop-b l = AreGiven l.rows l.base l.b l.given.items
