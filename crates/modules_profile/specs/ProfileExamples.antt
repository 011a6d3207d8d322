-- Inputs and functions of small systems.
use Rattle.std.specs.Prelude.{◌≡◌, ◌+◌, ◌^◌, false, List, [], ◌∷◌, map, Some, None, codes, refl}
use Rattle.std.specs.Fmt.{digits}
use Rattle.base_core.specs.declared.Control.TheVariants.{Both}
use Rattle.base_core.specs.declared.Edge.TheVariants.{Rising}
use Rattle.base_core.specs.declared.Port.{Port}
use Rattle.base_core.specs.declared.Port.TheVariants.{Number, Enable, Trigger}
use Rattle.diagram_blocks.specs.declared.Kind.TheVariants.{Inport, Outport, SubSystem, EnablePort, TriggerPort}
use Rattle.diagram_meaning.specs.declared.Row.{Row}
use Rattle.diagram_meaning.specs.RunExamples.{row, zero_initial}
use Rattle.diagram_meaning.specs.Inputs.{input_ports, input_row}
use Rattle.modules_profile.specs.Functions.{functions_for}
use Rattle.base_core.specs.Ports.{ports_in, ports_mask}
use Rattle.modules_profile.specs.Systems.{systems, system_name, entering_wire}

-- an input, an enable and a trigger, and a subsystem with both that passes the input on
abbrev gated : List Row
gated =
    row None (Inport 1) [] ∷ row None (Inport 2) [] ∷ row None (Inport 3) []
    ∷ row None (SubSystem (Both false Rising)) (1 ∷ 2 ∷ [])
    ∷ row (Some 3) (Inport 1) (0 ∷ []) ∷ row (Some 3) EnablePort [] ∷ row (Some 3) TriggerPort []
    ∷ row (Some 3) (Outport 1 false zero_initial) (4 ∷ []) ∷ row None (Outport 1 false zero_initial)
    (7 ∷ []) ∷ []

abbrev all_ports : List Port
all_ports = Number 1 ∷ Enable ∷ Trigger ∷ []

pub two_systems : systems gated ≡ None ∷ Some 3 ∷ []
two_systems = refl

pub inner_name : system_name (Some 3) ≡ codes "s3"
unfolding digits
inner_name = refl

-- the enable is before the trigger
pub gated_ports : input_ports gated (Some 3) ≡ all_ports
gated_ports = refl

pub root_ports : input_ports gated None ≡ Number 1 ∷ Number 2 ∷ Number 3 ∷ []
root_ports = refl

-- inside, the input is read from its Inport, and each control from its own wire
pub rows_read : map (input_row gated (Some 3)) all_ports ≡ Some 4 ∷ Some 1 ∷ Some 2 ∷ []
rows_read = refl

pub wires_entering : map (entering_wire gated 3) all_ports ≡ Some 0 ∷ Some 1 ∷ Some 2 ∷ []
wires_entering = refl

-- what a system doesn't have is no row
pub root_has_no_control : map (input_row gated None) (Number 4 ∷ Enable ∷ Trigger ∷ [])
    ≡ None ∷ None ∷ None ∷ []
root_has_no_control = refl

-- inputs have numbers from 1 on
pub from_one : map (input_row gated None) (Number 0 ∷ Number 1 ∷ []) ≡ None ∷ Some 0 ∷ []
from_one = refl

pub gated_mask : ports_mask all_ports ≡ 1 + 2 ^ 32 + 2 ^ 33
gated_mask = refl

pub gated_members : ports_in (2 ^ 33 + 2 ^ 32) all_ports ≡ Enable ∷ Trigger ∷ []
gated_members = refl

-- one function, which takes all three
pub gated_functions : functions_for (ports_mask all_ports ∷ [])
    ≡ record { inputs = 12884901889; outputs = 1 } ∷ []
gated_functions = refl

-- two outputs that need their own input each have two functions, and so have two of which one needs
-- nothing
pub crossed_functions : functions_for (1 ∷ 2 ∷ []) ≡ record { inputs = 1; outputs = 1 }
    ∷ record { inputs = 2; outputs = 2 } ∷ []
crossed_functions = refl

pub contained_functions : functions_for (1 ∷ 1 ∷ 0 ∷ []) ≡ record { inputs = 1; outputs = 3 }
    ∷ record { inputs = 0; outputs = 4 } ∷ []
contained_functions = refl
