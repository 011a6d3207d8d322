use Rattle.std.proofs.Common.{◌≡◌, ◌++◌, take}
use Rattle.tool_driver.specs.Shapes.{control_inputs}
use Rattle.tool_driver.proofs.plans.push_controls.Given as goal

abbrev pub invariant-loop-k : goal.invariant-loop-k
invariant-loop-k l = l.inputs.items ≡ l.initial.inputs.items ++ control_inputs l.from (take l.k l.controls)
