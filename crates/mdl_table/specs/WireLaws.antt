-- Laws of the wires of tables.
use Rattle.std.specs.Prelude.{◌≡◌, None}
use Rattle.mdl_tree.specs.Spelling.{Items}
use Rattle.diagram_meaning.specs.RowTable.{RowTable}
use Rattle.diagram_meaning.specs.WellFormed.{IsWired}
use Rattle.mdl_rows.specs.Refusals.{tree_refusal}
use Rattle.mdl_table.specs.Tables.{TableOf}

-- each row of a tree that isn't refused has as many wires as its kind asks for, each of the system
-- in which it is read
abbrev pub TreeIsWired : Type 0
TreeIsWired =
    (file : Items) (table : RowTable) → tree_refusal file ≡ None → TableOf file table →
    IsWired table.rows
