-- Laws of tables.
use Rattle.std.specs.Prelude.{◌≡◌, None}
use Rattle.std.specs.List.{AllByRecursion}
use Rattle.mdl_tree.specs.Spelling.{Items}
use Rattle.diagram_meaning.specs.RowTable.{RowTable}
use Rattle.diagram_meaning.specs.WellFormed.{IsNested, IsRow, IsStep, IsWellFormed}
use Rattle.mdl_rows.specs.Refusals.{tree_refusal}
use Rattle.mdl_table.specs.Tables.{TableOf}

-- a tree has at most one table
abbrev pub TreeHasOneTable : Type 0
TreeHasOneTable =
    (file : Items) (table other : RowTable) → TableOf file table → TableOf file other →
    table ≡ other

-- a tree that isn't refused has a table
abbrev pub TreeHasTable : Type 0
TreeHasTable = (file : Items) → tree_refusal file ≡ None → (table : RowTable) × TableOf file table

-- its rows are nested in preorder, within the limits on rows and depth
abbrev pub TreeIsNested : Type 0
TreeIsNested =
    (file : Items) (table : RowTable) → tree_refusal file ≡ None → TableOf file table →
    IsNested table.rows

-- each of its rows is lawful, and so is its step
abbrev pub TreeRowsAreLawful : Type 0
TreeRowsAreLawful =
    (file : Items) (table : RowTable) → tree_refusal file ≡ None → TableOf file table →
    AllByRecursion IsRow table.rows × IsStep table.fixed_step

-- it is well formed
abbrev pub TreeTableIsWellFormed : Type 0
TreeTableIsWellFormed =
    (file : Items) (table : RowTable) → tree_refusal file ≡ None → TableOf file table →
    IsWellFormed table
