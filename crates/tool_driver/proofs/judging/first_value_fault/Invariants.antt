use Rattle.std.proofs.Common.{◌≡◌, drop}
use Rattle.std.specs.List.{zip}
use Rattle.tool_driver.specs.Judging.{first_fault, value_fault}
use Rattle.tool_driver.proofs.judging.first_value_fault.Given as goal

abbrev pub invariant-loop-k : goal.invariant-loop-k
invariant-loop-k l = first_fault value_fault (zip (drop l.k l.inputs) (drop l.k l.values)) ≡ first_fault value_fault (zip l.inputs l.values)
