-- A table with its types, operations and sample times.
use Rattle.std.specs.Prelude.{List}
use Rattle.base_fixed_point.specs.declared.FixType.{FixType}
use Rattle.diagram_blocks.specs.declared.Op.{Op}
use Rattle.diagram_meaning.specs.RowTable.{RowTable}
use Rattle.diagram_meaning.specs.RowTimes.{RowTimes}
use Rattle.diagram_meaning.specs.Diagram.{Diagram, IsResolved}
use Rattle.diagram_meaning.specs.ResolvedTree.{ResolvedTree}

-- the rows and the step of a table, for each row its type, its operation, its sample time and
-- whether it is a delay between rates, and the cycle after which all hits repeat
pub record ResolvedTable : Type 0 where
  pub table : RowTable
  pub types : List FixType
  pub ops : List Op
  pub times : RowTimes

-- types, operations and times are those of the table, and nothing is wrong with its types and times
abbrev pub IsResolvedTable : ResolvedTable → Type 0
IsResolvedTable r = IsResolved r.table r.types r.ops r.times

-- the diagram whose runs are defined
abbrev pub diagram_of_table : ResolvedTable → Diagram
diagram_of_table r = record { rows = r.table.rows; types = r.types; ops = r.ops; run = r.times.run }

-- the same of a resolved tree, without its subsystems
abbrev pub table_of_tree : ResolvedTree → ResolvedTable
table_of_tree r = record { table = r.tree.table; types = r.types; ops = r.ops; times = r.times }
