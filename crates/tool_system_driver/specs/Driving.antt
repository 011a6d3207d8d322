-- Machines of a model's code, and what is driven in them.
use Rattle.std.specs.Prelude.{◌≡◌, ℕ, List, Option}
use Rattle.diagram_meaning.specs.ResolvedTable.{ResolvedTable}
use Rattle.c_interpreter.specs.States.{MachineState, tree_of}
use Rattle.right_driving.specs.DrivenMachines.{IsOfRightBytes}
use Rattle.tool_driver.specs.Driven.{Driven}
use Rattle.tool_system_driver.specs.SystemShapes.{IsSystemOfModel}

-- a machine as it was made of the one reading of bytes, which are right for a model without a loop
pub record IsMachineOf (m : MachineState) (r : ResolvedTable) : Type 0 where
  pub bytes : List ℕ
  pub of_right : IsOfRightBytes m bytes r

-- what is driven is this system of the model, in code that is the machine's program
pub record IsDrivenIn (m : MachineState) (r : ResolvedTable) (s : Option ℕ)
    (w : Driven) : Type 0 where
  pub program : w.program ≡ tree_of m
  pub of_model : IsSystemOfModel r s w
