use Rattle.std.proofs.Common.{◌+◌, length}
use Rattle.diagram_needs.specs.Levels.{IsNumbering}
use Rattle.diagram_needs.proofs.levels.advance.Given as goal

abbrev pub invariant-loop-a : goal.invariant-loop-a
invariant-loop-a l = IsNumbering l.g (l.k + 1) l.front l.initial.steps l.steps l.next.items l.a-index (length l.g.edges)
