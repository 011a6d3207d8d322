use Rattle.std.proofs.Common.{◌≡◌, ◌≤◌, drop, length}
use Rattle.tool_driver.specs.Judging.{missing}
use Rattle.tool_driver.proofs.judging.missing.Given as goal

abbrev pub invariant-loop-k : goal.invariant-loop-k
invariant-loop-k l = (l.k ≤ length l.called) × (l.missing ≡ missing (drop l.k l.called))

abbrev pub decreases-loop-k : goal.decreases-loop-k
decreases-loop-k l = l.k
