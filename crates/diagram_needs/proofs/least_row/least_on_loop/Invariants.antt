use Rattle.std.proofs.Common.{ℕ, ◌*◌, ◌≤◌}
use Rattle.diagram_needs.specs.Needed.{needed, IsOnLoop}
use Rattle.diagram_needs.proofs.least_row.least_on_loop.Given as goal

abbrev pub invariant-loop-block : goal.invariant-loop-block
invariant-loop-block l = (b : ℕ) → IsOnLoop (needed l.g) b → l.block * 64 ≤ b
