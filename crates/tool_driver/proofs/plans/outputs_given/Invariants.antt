use Rattle.std.proofs.Common.{◌≡◌, take}
use Rattle.tool_driver.specs.Shapes.{outputs_given}
use Rattle.tool_driver.proofs.plans.outputs_given.Given as goal

abbrev pub invariant-loop-bit : goal.invariant-loop-bit
invariant-loop-bit l = l.given.items ≡ outputs_given l.function (take l.bit l.names)
