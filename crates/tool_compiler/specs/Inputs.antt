-- The Inports of the root by their ports.
use Rattle.std.specs.Prelude.{ℕ, Bool, ◌==◌, ◌&&◌, List, find, Option, None}
use Rattle.diagram_meaning.specs.declared.table.Row.{Row}
use Rattle.diagram_meaning.specs.Rows.{row_at, row_numbers, same_system}
use Rattle.diagram_blocks.specs.Kinds.{is_inport, port_of}

-- whether a row is an Inport of the root
abbrev pub is_root_inport : Row → Bool
is_root_inport row = same_system row.owner None && is_inport row.kind

-- whether it is the one with this port
abbrev pub is_root_inport_with : ℕ → Row → Bool
is_root_inport_with port row = is_root_inport row && (port_of row.kind == port)

-- the number of the first such row
abbrev pub root_inport_with : List Row → ℕ → Option ℕ
root_inport_with rows port = find (λ b. is_root_inport_with port (row_at rows b)) (row_numbers rows)
