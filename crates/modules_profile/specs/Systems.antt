-- The systems of a diagram.
use Rattle.std.specs.Prelude.{ℕ, ◌<◌, ◌&&◌, ⊤, length, List, [], ◌∷◌, ◌++◌, map, filter, slice_get, Option, Some, None, option_and_then, codes, decimal}
use Rattle.base_core.specs.declared.Control.{Control}
use Rattle.base_core.specs.declared.Port.{Port}
use Rattle.base_core.specs.declared.Port.TheVariants.{Number, Enable, Trigger}
use Rattle.diagram_meaning.specs.declared.Row.{Row}
use Rattle.diagram_meaning.specs.Nested.{System, Systems as NestedSystems, system, no_more, next}
use Rattle.diagram_meaning.specs.Rows.{row_at, row_numbers, is_inside}
use Rattle.diagram_blocks.specs.Kinds.{is_subsystem}
use Rattle.diagram_meaning.specs.Inputs.{inport_row, control_row}
pub use Rattle.diagram_meaning.specs.Inputs.{control_wires_of, entering_wires, input_row}

-- the subsystem rows inside a system, at any depth
abbrev pub systems_inside : List Row → Option ℕ → List ℕ
systems_inside rows s =
    filter (λ e. is_subsystem (row_at rows e).kind && is_inside rows s e) (row_numbers rows)

-- all systems: the root, and then those of the subsystem rows
abbrev pub systems : List Row → List (Option ℕ)
systems rows = None ∷ map Some (systems_inside rows None)

-- the system of subsystem row r is `sr`, and the root is `top`
abbrev pub system_name : Option ℕ → List ℕ
system_name None = codes "top"
system_name (Some r) = codes "s" ++ decimal r

-- the own rows of a nested system, and its control
abbrev pub own_of : System → List ℕ
own_of (system row line control own children) = own

abbrev pub control_of_system : System → Control
control_of_system (system row line control own children) = control

-- the systems directly inside it, one after another
abbrev pub listed : NestedSystems → List System
listed no_more = []
listed (next child rest) = child ∷ listed rest

abbrev pub children_of : System → List System
children_of (system row line control own children) = listed children

-- the root, or a row of the table
abbrev pub IsInTable : List Row → Option ℕ → Type 0
IsInTable rows None = ⊤
IsInTable rows (Some e) = e < length rows

-- the wire that enters an input of the system of subsystem row e: that of its Inport, or that of
-- the control
abbrev pub entering_wire : List Row → ℕ → Port → Option ℕ
entering_wire rows e (Number k) =
    option_and_then (λ i. slice_get (row_at rows i).inputs 0) (inport_row rows (Some e) k)
entering_wire rows e Enable = control_row rows (Some e) Enable
entering_wire rows e Trigger = control_row rows (Some e) Trigger
