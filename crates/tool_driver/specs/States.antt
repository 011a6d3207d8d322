-- A driver: a machine, an instance of a system in it, and what was done in the present tick.
use Rattle.std.specs.Prelude.{◌≡◌, ℕ, suc, ◌<◌, Bool, List, length, map, Some, slice_get, option_and_then, Option, unwrap_or, ℤ, pos}
use Rattle.c_syntax.specs.Tree.{ProgramTree}
use Rattle.c_interpreter.specs.Instances.{instance_at, number_named}
use Rattle.c_interpreter.specs.States.{MachineState, tree_of, fields_of}
use Rattle.tool_driver.specs.Shapes.{Shape, CallPlan, inputs_of, function_plan, update_plan}
use Rattle.tool_driver.specs.Drivable.{IsDrivable}

-- `now` is the tick modulo the cycle; `called` says of each function whether this tick had a call
-- of it, and `given` has for each input the value that this tick was given, if it was
pub record DriverState : Type 0 where
  pub machine : MachineState
  pub instance : ℕ
  pub shape : Shape
  pub now : ℕ
  pub called : List Bool
  pub given : List (Option ℤ)

-- the program of its machine
abbrev pub program_of : DriverState → ProgramTree
program_of d = tree_of d.machine

-- the number in a number field of an instance, by its name; 0 where there is none
abbrev pub number_of : MachineState → ℕ → List ℕ → ℤ
number_of m instance name =
    unwrap_or
    (option_and_then (number_named (tree_of m) (fields_of m) name)
    (instance_at (tree_of m) instance)) (pos 0)

-- the numbers in number fields of the instance that is driven
abbrev pub numbers_of : DriverState → List (List ℕ) → List ℤ
numbers_of d names = map (number_of d.machine d.instance) names

-- the plans of its calls, in its program
abbrev pub plan_of : DriverState → ℕ → CallPlan
plan_of d j = function_plan (program_of d) d.shape j

abbrev pub plan_of_update : DriverState → CallPlan
plan_of_update d = update_plan (program_of d) d.shape

-- what a driver keeps beside what is seen of it: the plans of its calls, and room for their
-- arguments
pub record IsDriver (d : DriverState) (plans : List CallPlan) (update : CallPlan)
    (arguments : List ℤ) : Type 0 where
  pub drivable : IsDrivable (program_of d) d.instance d.shape
  pub plan_each : length plans ≡ length d.shape.functions
  pub plans_are : (k : ℕ) → k < length plans → slice_get plans k ≡ Some (plan_of d (suc k))
  pub update_is : update ≡ plan_of_update d
  pub room : length arguments ≡ suc (length (inputs_of d.shape))
  pub in_cycle : d.now < d.shape.hyper
  pub called_each : length d.called ≡ length d.shape.functions
  pub given_each : length d.given ≡ length (inputs_of d.shape)
