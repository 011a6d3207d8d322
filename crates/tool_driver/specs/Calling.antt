-- What the calls of a driver do.
use Rattle.std.specs.Prelude.{◌≡◌, ℕ, ◌+◌, ◌-◌, ◌%◌, ◌<◌, ◌≤◌, true, false, List, [], ◌∷◌, length, zip, replicate, slice_set, Option, Some, None, ℤ, pos}
use Rattle.c_syntax.specs.declared.fault.Cost.{Cost}
use Rattle.c_syntax.specs.declared.fault.Stuck.{Stuck}
use Rattle.c_interpreter.specs.Machines.{IsCall, IsStuckCall}
use Rattle.tool_driver.specs.declared.inputs.Input.{Input}
use Rattle.tool_driver.specs.declared.fault.DriveFault.{DriveFault}
use Rattle.tool_driver.specs.declared.fault.DriveFault.TheVariants as fault
use Rattle.c_interpreter.specs.States.{MachineState}
use Rattle.tool_driver.specs.Shapes.{Shape, CallPlan, function_inputs, function_outputs, inputs_of}
use Rattle.tool_driver.specs.States.{DriverState, numbers_of, plan_of, plan_of_update}

-- a function, and as many values and outputs as it takes and gives
pub record IsCallFor (d : DriverState) (j : ℕ) (values out : List ℤ) : Type 0 where
  pub least : 0 < j
  pub most : j ≤ length d.shape.functions
  pub values_each : length values ≡ length (function_inputs d.shape j)
  pub out_each : length out ≡ length (function_outputs d.shape j)

-- as many values as all inputs
abbrev pub IsUpdateFor : DriverState → List ℤ → Type 0
IsUpdateFor d values = length values ≡ length (inputs_of d.shape)

-- the values that a tick has, with these values of inputs; of two for one input the earlier one
abbrev pub given_with : List (Option ℤ) → List (Input × ℤ) → List (Option ℤ)
given_with given [] = given
given_with given (e ∷ es) = slice_set (given_with given es) e.0.place (Some e.1)

-- a driver of this instance at the start of a tick: nothing was called, and nothing given
abbrev pub at_start : MachineState → ℕ → Shape → ℕ → DriverState
at_start machine instance shape now = record {
  machine = machine;
  instance = instance;
  shape = shape;
  now = now;
  called = replicate (length shape.functions) false;
  given = replicate (length (inputs_of shape)) None;
}

-- the arguments of a call's procedure: the tick, and then the values
abbrev pub arguments : DriverState → List ℤ → List ℤ
arguments d values = pos d.now ∷ values

-- the machine made a call, which took this
pub record Makes (plan : CallPlan) (values : List ℤ) (cost : Cost)
    (before after : DriverState) : Type 0 where
  pub call : IsCall before.machine after.machine plan.procedure before.instance
      (arguments before values) cost
  pub program : after.machine.program ≡ before.machine.program

-- a call of function j was made: the outputs that it gives are reported, and the tick had it and its
-- values
pub record IsCallOf (j : ℕ) (values out : List ℤ) (cost : Cost)
    (before after : DriverState) : Type 0 where
  pub makes : Makes (plan_of before j) values cost before after
  pub outputs : out ≡ numbers_of after (function_outputs before.shape j)
  pub tick : after ≡ record before {
    machine = after.machine;
    called = slice_set before.called (j - 1) true;
    given = given_with before.given (zip (function_inputs before.shape j) values);
  }

-- the update was made, and the next tick begins
pub record IsUpdate (values : List ℤ) (cost : Cost) (before after : DriverState) : Type 0 where
  pub makes : Makes (plan_of_update before) values cost before after
  pub tick : after
      ≡ at_start after.machine before.instance before.shape ((before.now + 1) % before.shape.hyper)

-- the machine is stuck in a call, and nothing else changed
pub record IsStuckIn (plan : CallPlan) (values : List ℤ) (at : Stuck)
    (before after : DriverState) : Type 0 where
  pub stuck : IsStuckCall before.machine after.machine plan.procedure before.instance
      (arguments before values) at
  pub program : after.machine.program ≡ before.machine.program
  pub tick : after ≡ record before { machine = after.machine }

-- what an answer that is no cost leaves: after a refusal the driver is as it was
abbrev pub Leaves : DriveFault → CallPlan → List ℤ → DriverState → DriverState → Type 0
Leaves (fault.Stuck at) plan values before after = IsStuckIn plan values at before after
Leaves _ plan values before after = after ≡ before
