use Rattle.std.proofs.Common.{ℕ, ◌+◌, ◌<◌, ◌≤◌}
use Rattle.diagram_meaning.specs.ResolvedTree.{diagram_of}
use Rattle.diagram_same.specs.Same.{AreAlike}
use Rattle.diagram_same.proofs.alike.are_alike.Given as goal

abbrev pub invariant-loop-k : goal.invariant-loop-k
invariant-loop-k l = (j : ℕ) → 1 ≤ j → j < l.k → AreAlike (diagram_of l.r) l.a.row l.b.row (l.a.row + j) (l.b.row + j)
