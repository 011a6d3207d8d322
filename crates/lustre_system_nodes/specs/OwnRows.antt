-- The rows of a system, with what is inside those that are subsystems.
use Rattle.std.specs.Prelude.{ℕ, List, Some}
use Rattle.diagram_blocks.specs.Kinds.{is_subsystem}
use Rattle.diagram_meaning.specs.declared.table.Row.{Row}
use Rattle.diagram_meaning.specs.Rows.{row_at, inports_of, outports_of}
use Rattle.lustre_system.specs.RowEquations.{only_if}
use Rattle.lustre_system_nodes.specs.declared.own_rows.OwnRow.{OwnRow}

-- row b; where it is a subsystem, with the Outports and the Inports inside it by number
abbrev pub own_row : List Row → ℕ → OwnRow
own_row rows b = record {
  row = b;
  outputs = only_if (is_subsystem (row_at rows b).kind) (outports_of rows (Some b));
  inputs = only_if (is_subsystem (row_at rows b).kind) (inports_of rows (Some b));
}
