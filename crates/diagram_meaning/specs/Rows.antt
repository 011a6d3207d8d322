-- The rows of a table by their numbers, and the subsystems around them.
use Rattle.std.specs.Prelude.{ℕ, zero, suc, ◌-◌, Bool, true, false, not, ◌&&◌, ◌==◌, if◌then◌else◌, List, [], ◌∷◌, map, filter, filter_map, find, length, slice_get, slice_index_or, Option, Some, None, ◌+◌}
use Rattle.std.specs.List.{range_with_len, list_any}
use Rattle.base_core.specs.declared.Control.{Control}
use Rattle.base_core.specs.declared.Control.TheVariants.{Plain, Enabled, Triggered, Both}
use Rattle.base_core.specs.declared.Port.{Port}
use Rattle.base_core.specs.declared.Port.TheVariants.{Number, Enable, Trigger}
use Rattle.base_core.specs.declared.TimeText.TheVariants.{Inherit as NoTime}
use Rattle.base_fixed_point.specs.declared.TypeText.TheVariants.{Inherit as NoType}
use Rattle.diagram_blocks.specs.declared.Kind.{Kind}
use Rattle.diagram_blocks.specs.declared.Kind.TheVariants.{Inport, Terminator}
use Rattle.diagram_meaning.specs.declared.table.Row.{Row}
use Rattle.diagram_blocks.specs.Kinds.{control_of, is_subsystem, is_inport, is_outport, port_of}

-- what stands for a row past the end of the table, which no wire of a lawful table names
abbrev pub no_row : Row
no_row =
    record {
      place = record { row = 0; line = 0 };
      owner = None;
      kind = Terminator;
      inputs = [];
      type_text = NoType;
      time_text = NoTime;
    }

-- row b
abbrev pub row_at : List Row → ℕ → Row
row_at rows b = slice_index_or rows b no_row

-- the numbers of all rows, in order
abbrev pub row_numbers : List Row → List ℕ
row_numbers rows = range_with_len 0 (length rows)

-- what f gives of each row number, in order
abbrev pub by_row : {A : Type 0} → List Row → (ℕ → A) → List A
by_row rows f = map f (row_numbers rows)

-- how subsystem e is controlled
abbrev pub control_at : List Row → ℕ → Control
control_at rows e = control_of (row_at rows e).kind

-- whether a trigger controls the subsystem, alone or beside an enable
abbrev pub is_triggered : Control → Bool
is_triggered Plain = false
is_triggered (Enabled reset) = false
is_triggered (Triggered edge) = true
is_triggered (Both reset edge) = true

-- whether an enable controls the subsystem, alone or beside a trigger
abbrev pub is_enabled : Control → Bool
is_enabled Plain = false
is_enabled (Enabled reset) = true
is_enabled (Triggered edge) = false
is_enabled (Both reset edge) = true

-- whether a subsystem has a control
abbrev pub is_conditional : Control → Bool
is_conditional Plain = false
is_conditional (Enabled reset) = true
is_conditional (Triggered edge) = true
is_conditional (Both reset edge) = true

-- The inputs of a subsystem row are its control wires, an enable before a trigger.

-- the enable among the control wires of a subsystem, where it has one
abbrev pub enable_among : Control → List ℕ → Option ℕ
enable_among Plain wires = None
enable_among (Enabled reset) wires = slice_get wires 0
enable_among (Triggered edge) wires = None
enable_among (Both reset edge) wires = slice_get wires 0

-- the trigger among the control wires of a subsystem, where it has one
abbrev pub trigger_among : Control → List ℕ → Option ℕ
trigger_among Plain wires = None
trigger_among (Enabled reset) wires = None
trigger_among (Triggered edge) wires = slice_get wires 0
trigger_among (Both reset edge) wires = slice_get wires 1

-- the wire that enables subsystem e, where one does
abbrev pub enable_wire : List Row → ℕ → Option ℕ
enable_wire rows e = enable_among (control_at rows e) (row_at rows e).inputs

-- the wire that triggers subsystem e, where one does
abbrev pub trigger_wire : List Row → ℕ → Option ℕ
trigger_wire rows e = trigger_among (control_at rows e) (row_at rows e).inputs

-- A system is a subsystem row, or none for the root.

-- whether e is the row of the system s
abbrev pub is_system : Option ℕ → ℕ → Bool
is_system None e = false
is_system (Some s) e = s == e

-- whether two systems are one
abbrev pub same_system : Option ℕ → Option ℕ → Bool
same_system None None = true
same_system None (Some e) = false
same_system (Some s) o = is_system o s

-- the subsystem rows from a system outward, up to s or to the root: at most n
abbrev pub outward : List Row → Option ℕ → ℕ → Option ℕ → List ℕ
outward rows s zero o = []
outward rows s (suc n) None = []
outward rows s (suc n) (Some e) =
    e ∷ (if is_system s e then [] else outward rows s n (row_at rows e).owner)

-- the subsystem rows around the rows of a system that count in s: those inside s, innermost first,
-- and then s
abbrev pub enclosing : List Row → Option ℕ → Option ℕ → List ℕ
enclosing rows s o = outward rows s (length rows) o

-- the same around row b, which may be that of s itself
abbrev pub around : List Row → Option ℕ → ℕ → List ℕ
around rows s b = if is_system s b then [] else enclosing rows s (row_at rows b).owner

-- the subsystem rows around row b that are inside s
abbrev pub around_inside : List Row → Option ℕ → ℕ → List ℕ
around_inside rows s b = filter (λ e. not (is_system s e)) (around rows s b)

-- whether row b is inside s, at any depth
abbrev pub is_inside : List Row → Option ℕ → ℕ → Bool
is_inside rows None b = true
is_inside rows (Some s) b = list_any (is_system (Some s)) (around rows None b)

-- the rows of a system, in the order of the file
abbrev pub rows_of : List Row → Option ℕ → List ℕ
rows_of rows o = filter (λ b. same_system (row_at rows b).owner o) (row_numbers rows)

-- whether a row is one of a system that passes a test on its kind
abbrev pub is_own : (Kind → Bool) → Option ℕ → Row → Bool
is_own test s row = same_system row.owner s && test row.kind

-- the subsystems of a system, in the order of the file
abbrev pub subsystems_of : List Row → Option ℕ → List ℕ
subsystems_of rows o = filter (λ b. is_subsystem (row_at rows b).kind) (rows_of rows o)

-- the rows of a system that pass a test on their kind, by their ports
abbrev pub by_port : List Row → Option ℕ → (Kind → Bool) → List ℕ
by_port rows o test =
    let own = filter (λ b. test (row_at rows b).kind) (rows_of rows o) in
    filter_map (λ k. find (λ b. port_of (row_at rows b).kind == k) own)
    (range_with_len 1 (length own))

-- the Inports of a system by port
abbrev pub inports_of : List Row → Option ℕ → List ℕ
inports_of rows o = by_port rows o is_inport

-- the Outports of a system by port
abbrev pub outports_of : List Row → Option ℕ → List ℕ
outports_of rows o = by_port rows o is_outport

-- whether row b is an Inport of the system s
abbrev pub is_inport_of : List Row → Option ℕ → ℕ → Bool
is_inport_of rows s b = is_inport (row_at rows b).kind && same_system (row_at rows b).owner s

-- how a system is controlled; the root is plain
abbrev pub system_control : List Row → Option ℕ → Control
system_control rows None = Plain
system_control rows (Some s) = control_at rows s

-- how many enables a system has
abbrev pub enable_count : Control → ℕ
enable_count Plain = 0
enable_count (Enabled reset) = 1
enable_count (Triggered edge) = 0
enable_count (Both reset edge) = 1

-- the column of an input of the system s in a row of its trace: inputs by port, then an enable,
-- then a trigger; inputs have numbers from 1 on, and 0, which none has, would share the column of 1
abbrev pub column : List Row → Option ℕ → Port → ℕ
column rows s (Number k) = k - 1
column rows s Enable = length (inports_of rows s)
column rows s Trigger = length (inports_of rows s) + enable_count (system_control rows s)
