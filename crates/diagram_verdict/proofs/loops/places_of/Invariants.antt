use Rattle.std.proofs.Common.{◌≡◌, take}
use Rattle.diagram_verdict.specs.Verdict.{places_of}
use Rattle.diagram_verdict.proofs.loops.places_of.Given as goal

abbrev pub invariant-loop-number : goal.invariant-loop-number
invariant-loop-number l = l.places.items ≡ places_of l.rows (take l.number-index l.numbers)
