-- What a call took is little enough for the totals.
use Rattle.std.proofs.Common.{ap, ◌^◌, ◌≤◌, ◌+◌, ℕ, List, arith}
use Rattle.std.specs.Prelude.{ℤ}
use Rattle.c_syntax.specs.declared.fault.Cost.{Cost}
use Rattle.c_interpreter.specs.States.{tree_of, fields_of}
use Rattle.tool_runner.proofs.lemmas.StepBounds.{outside-bounded}
use Rattle.tool_driver.specs.Shapes.{CallPlan}
use Rattle.tool_driver.specs.States.{DriverState}
use Rattle.tool_driver.specs.Calling.{Makes, IsCallOf, IsUpdate, arguments}

made-bounded : (plan : CallPlan) (values : List ℤ) (cost : Cost) (d d' : DriverState) → Makes plan values cost d d' →
    (cost.steps ≤ 2 ^ 32) × (cost.calls ≤ 2 ^ 32 + 1)
made-bounded plan values cost d d' makes =
    let call = makes.call in
    let most =
    outside-bounded (tree_of d.machine) plan.procedure call.instance_is.path (arguments d values)
    (fields_of d.machine) call.left call.run in
    (omega (arith, ap (λ (c : Cost). c.steps) call.cost_is, most.0), omega (arith, ap (λ (c : Cost). c.calls) call.cost_is, most.1))

pub out-bounded : (j : ℕ) (values outputs : List ℤ) (cost : Cost) (d d' : DriverState) → IsCallOf j values outputs cost d d' →
    (cost.steps ≤ 2 ^ 32) × (cost.calls ≤ 2 ^ 32 + 1)
out-bounded j values outputs cost d d' made = made-bounded _ values cost d d' made.makes

pub update-bounded : (values : List ℤ) (cost : Cost) (d d' : DriverState) → IsUpdate values cost d d' →
    (cost.steps ≤ 2 ^ 32) × (cost.calls ≤ 2 ^ 32 + 1)
update-bounded values cost d d' made = made-bounded _ values cost d d' made.makes
