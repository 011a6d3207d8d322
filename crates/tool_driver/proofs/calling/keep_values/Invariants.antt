use Rattle.std.proofs.Common.{◌≡◌, ◌≤◌, drop, length}
use Rattle.std.specs.List.{zip}
use Rattle.tool_driver.specs.Calling.{given_with}
use Rattle.tool_driver.proofs.calling.keep_values.Given as goal

abbrev pub invariant-loop-k : goal.invariant-loop-k
invariant-loop-k l = (l.k ≤ length l.values) × (length l.given ≡ length l.initial.given)
    × (l.given ≡ given_with l.initial.given (zip (drop l.k l.inputs) (drop l.k l.values)))

abbrev pub decreases-loop-k : goal.decreases-loop-k
decreases-loop-k l = l.k
