use Rattle.std.proofs.Common.{◌≡◌, drop}
use Rattle.std.specs.List.{zip}
use Rattle.tool_driver.specs.Judging.{first_fault, unlike_fault}
use Rattle.tool_driver.proofs.judging.first_unlike_fault.Given as goal

abbrev pub invariant-loop-k : goal.invariant-loop-k
invariant-loop-k l = first_fault (unlike_fault l.given) (zip (drop l.k l.inputs) (drop l.k l.values))
    ≡ first_fault (unlike_fault l.given) (zip l.inputs l.values)
