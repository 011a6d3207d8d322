use Rattle.std.proofs.Common.{◌≡◌, map, take}
use Rattle.tool_driver.specs.States.{number_of}
use Rattle.tool_driver.proofs.calling.put_numbers.Given as goal

abbrev pub invariant-loop-k : goal.invariant-loop-k
invariant-loop-k l = take l.k l.out ≡ map (number_of l.machine l.instance) (take l.k l.names)
