-- The names in the node of a system.
use Rattle.std.specs.Prelude.{ℕ, zero, suc, ◌+◌, ◌-◌, if◌then◌else◌, List, [], ◌∷◌, ◌++◌, map, length, slice_index_or, Option, codes, decimal}
use Rattle.base_core.specs.declared.Port.TheVariants.{Enable, Trigger}
use Rattle.diagram_meaning.specs.declared.Row.{Row}
use Rattle.diagram_blocks.specs.Kinds.{port_of}
use Rattle.diagram_meaning.specs.Rows.{system_control, column, row_at, is_inport_of}
use Rattle.diagram_meaning.specs.Inputs.{input_ports}
use Rattle.c_syntax.specs.declared.Leaf.{Leaf}
use Rattle.c_syntax.specs.declared.Leaf.TheVariants.{Param, Own, Child}
use Rattle.emit_row_code.specs.declared.leaves.ControlLeaves.{ControlLeaves}
use Rattle.emit_shape.specs.Names.{value_name, memory_name, now_name, trigger_name, port_name}

-- Inputs: the tick in its cycle, whether the system around is active, whether a system around is
-- off, and the system's inputs with its controls.
abbrev pub around_active : List ℕ
around_active = codes "on"

abbrev pub around_off : List ℕ
around_off = codes "off"

-- whether the system is active, and whether it or one around it is off
abbrev pub active_name : List ℕ
active_name = codes "active"

abbrev pub reset_name : List ℕ
reset_name = codes "reset"

-- whether a delay takes a sample at this tick
abbrev pub takes_name : ℕ → List ℕ
takes_name b = codes "r" ++ decimal b

-- sample k of what row b remembers; the oldest one is 0
abbrev pub sample_name : ℕ → ℕ → List ℕ
sample_name b zero = memory_name b
sample_name b (suc k) = memory_name b ++ codes "_" ++ decimal (suc k)

-- what call n of a function for row b gives
abbrev pub part_name : ℕ → ℕ → List ℕ
part_name b n = codes "q" ++ decimal b ++ codes "_" ++ decimal n

-- the names of the inputs of a system and of its controls
abbrev pub port_names : List Row → Option ℕ → List (List ℕ)
port_names rows s = map (port_name (system_control rows s)) (input_ports rows s)

-- Leaves as names: a parameter is an input, a control, what the trigger remembers or the tick, an
-- own field the value of a row, and a field of a field a sample.

abbrev pub param_names : List Row → Option ℕ → List (List ℕ)
param_names rows s = port_names rows s ++ trigger_name ∷ now_name ∷ []

abbrev pub leaf_name : List Row → Option ℕ → Leaf → List ℕ
leaf_name rows s (Param k) = slice_index_or (param_names rows s) k []
leaf_name rows s (Own c) = value_name c
leaf_name rows s (Child b k) = sample_name b k

abbrev pub port_count : List Row → Option ℕ → ℕ
port_count rows s = length (input_ports rows s)

abbrev pub now_leaf : List Row → Option ℕ → Leaf
now_leaf rows s = Param (port_count rows s + 1)

abbrev pub control_leaves : List Row → Option ℕ → ControlLeaves
control_leaves rows s = record {
  enable = Param (column rows s Enable);
  trigger = Param (column rows s Trigger);
  remembers = Param (port_count rows s);
}

-- what a row reads: an Inport its input, another row the values of its wires
abbrev pub leaves_of : List Row → Option ℕ → ℕ → List Leaf
leaves_of rows s b =
    if is_inport_of rows s b then Param (port_of (row_at rows b).kind - 1) ∷ []
    else map Own (row_at rows b).inputs
