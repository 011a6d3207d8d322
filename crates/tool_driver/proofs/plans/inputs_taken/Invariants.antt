use Rattle.std.proofs.Common.{◌≡◌, take}
use Rattle.tool_driver.specs.Shapes.{inputs_taken}
use Rattle.tool_driver.proofs.plans.inputs_taken.Given as goal

abbrev pub invariant-loop-input : goal.invariant-loop-input
invariant-loop-input l = l.taken.items ≡ inputs_taken l.function (take l.input-index l.inputs)
