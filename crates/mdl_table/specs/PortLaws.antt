-- Laws of the ports and wires of tables.
use Rattle.std.specs.Prelude.{◌≡◌, ℕ, Option, None}
use Rattle.mdl_tree.specs.Spelling.{Items}
use Rattle.diagram_meaning.specs.RowTable.{RowTable}
use Rattle.diagram_blocks.specs.Kinds.{is_inport, is_outport}
use Rattle.diagram_meaning.specs.WellFormed.{HasPorts, HasControlPorts}
use Rattle.mdl_rows.specs.Refusals.{tree_refusal}
use Rattle.mdl_table.specs.Tables.{TableOf}

-- the Inports of each system of a tree that isn't refused have the ports from 1 on, each once, and
-- so have its Outports
abbrev pub TreePortsAreNumbered : Type 0
TreePortsAreNumbered =
    (file : Items) (table : RowTable) → tree_refusal file ≡ None → TableOf file table →
    ((o : Option ℕ) → HasPorts table.rows is_inport o)
    × ((o : Option ℕ) → HasPorts table.rows is_outport o)

-- each system of such a tree has the control ports of its control, one each
abbrev pub TreeControlPortsAreOne : Type 0
TreeControlPortsAreOne =
    (file : Items) (table : RowTable) → tree_refusal file ≡ None → TableOf file table →
    (o : Option ℕ) → HasControlPorts table.rows o
