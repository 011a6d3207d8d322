-- The inputs of a system, by number and then its controls, and the rows that give them their
-- values.
use Rattle.std.specs.Prelude.{ℕ, zero, suc, List, [], ◌∷◌, ◌++◌, map, flat_map, length, slice_get, Option, Some, None}
use Rattle.std.specs.List.{range_with_len}
use Rattle.base_core.specs.declared.Control.{Control}
use Rattle.base_core.specs.declared.Control.TheVariants.{Plain, Enabled, Triggered, Both}
use Rattle.base_core.specs.declared.Port.{Port}
use Rattle.base_core.specs.declared.Port.TheVariants.{Number, Enable, Trigger}
use Rattle.diagram_meaning.specs.declared.table.Row.{Row}
use Rattle.diagram_meaning.specs.Rows.{row_at, inports_of, system_control, enable_wire, trigger_wire}
use Rattle.base_core.specs.Ports.{control_ports}

-- the inputs of a system: by number, and then its controls
abbrev pub input_ports : List Row → Option ℕ → List Port
input_ports rows s = map Number (range_with_len 1 (length (inports_of rows s)))
    ++ control_ports (system_control rows s)

-- An input that a system doesn't have is no row and has no wire.

-- the wires of a system's controls, an enable before a trigger
abbrev pub control_wires_of : List Row → Option ℕ → List ℕ
control_wires_of rows None = []
control_wires_of rows (Some e) = (row_at rows e).inputs

-- the wires of some rows, one after another
abbrev pub wires_of_rows : List Row → List ℕ → List ℕ
wires_of_rows rows bs = flat_map (λ b. (row_at rows b).inputs) bs

-- the wires that enter a system: those of its Inports, by port; the root's Inports have none
abbrev pub entering_wires : List Row → Option ℕ → List ℕ
entering_wires rows s = wires_of_rows rows (inports_of rows s)

-- the row that is the input k of a system: its Inport of that number; numbers begin with 1
abbrev pub inport_row : List Row → Option ℕ → ℕ → Option ℕ
inport_row rows s zero = None
inport_row rows s (suc k) = slice_get (inports_of rows s) k

-- the row of the system that encloses it which an input of a system reads: a control's wire; the
-- root has no control
abbrev pub control_row : List Row → Option ℕ → Port → Option ℕ
control_row rows None port = None
control_row rows (Some e) (Number k) = None
control_row rows (Some e) Enable = enable_wire rows e
control_row rows (Some e) Trigger = trigger_wire rows e

-- the row that gives an input of a system its value: the Inport of that number, or the row that a
-- control reads
abbrev pub input_row : List Row → Option ℕ → Port → Option ℕ
input_row rows s (Number k) = inport_row rows s k
input_row rows s Enable = control_row rows s Enable
input_row rows s Trigger = control_row rows s Trigger
