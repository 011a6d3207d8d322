-- What scripts a driver stands for, as laws of the definitions.
use Rattle.std.specs.Prelude.{◌≡◌, ℕ, List, [], None, ℤ}
use Rattle.right_claim.specs.Scripts.{Call, out_with, update_with}
use Rattle.c_syntax.specs.declared.fault.Cost.{Cost}
use Rattle.c_syntax.specs.declared.fault.Stuck.{Stuck}
use Rattle.c_interpreter.specs.States.{MachineState}
use Rattle.tool_driver.specs.Drivable.{IsDrivable}
use Rattle.tool_driver.specs.Shapes.{Shape}
use Rattle.tool_driver.specs.States.{DriverState, program_of, plan_of, plan_of_update}
use Rattle.tool_driver.specs.Judging.{call_fault, update_fault}
use Rattle.tool_driver.specs.Calling.{IsCallFor, IsUpdateFor, at_start, IsCallOf, IsUpdate, IsStuckIn}
use Rattle.tool_driver.specs.Driven.{Driven, StandsFor, IsReadyFor, GoesOn}

-- a driver that begins stands for the empty script
abbrev pub NewDriversStand : Type 0
NewDriversStand =
    (w : Driven) (machine : MachineState) (instance : ℕ) (shape : Shape) →
    IsReadyFor w machine instance shape → StandsFor w (at_start machine instance shape 0) []

-- a call of a function that isn't refused goes on each script that the driver stood for, and isn't
-- stuck
pub record CallsGoOn : Type 0 where
  pub made : (w : Driven) (script : List Call) (j : ℕ) (values out : List ℤ) (cost : Cost)
      (before after : DriverState) →
      StandsFor w before script → IsDrivable (program_of before) before.instance before.shape →
      IsCallFor before j values out →
      call_fault before j values ≡ None → IsCallOf j values out cost before after →
      GoesOn w script (out_with j values) out cost after
  pub not_stuck : (w : Driven) (script : List Call) (j : ℕ) (values out : List ℤ) (at : Stuck)
      (before after : DriverState) →
      StandsFor w before script → IsDrivable (program_of before) before.instance before.shape →
      IsCallFor before j values out →
      call_fault before j values ≡ None → IsStuckIn (plan_of before j) values at before after → ⊥

-- so does an update
pub record UpdatesGoOn : Type 0 where
  pub made : (w : Driven) (script : List Call) (values : List ℤ) (cost : Cost)
      (before after : DriverState) →
      StandsFor w before script → IsDrivable (program_of before) before.instance before.shape →
      IsUpdateFor before values →
      update_fault before values ≡ None → IsUpdate values cost before after →
      GoesOn w script (update_with values) [] cost after
  pub not_stuck : (w : Driven) (script : List Call) (values : List ℤ) (at : Stuck)
      (before after : DriverState) →
      StandsFor w before script → IsDrivable (program_of before) before.instance before.shape →
      IsUpdateFor before values →
      update_fault before values ≡ None → IsStuckIn (plan_of_update before) values at before after →
      ⊥
