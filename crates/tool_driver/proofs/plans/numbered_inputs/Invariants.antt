use Rattle.std.proofs.Common.{◌≡◌, take}
use Rattle.tool_driver.specs.Shapes.{numbered_inputs}
use Rattle.tool_driver.proofs.plans.numbered_inputs.Given as goal

abbrev pub invariant-loop-place : goal.invariant-loop-place
invariant-loop-place l = l.inputs.items ≡ numbered_inputs (take l.place l.types)
