-- What contracts see of a resolved tree.
use Rattle.std.specs.Prelude.{List}
use Rattle.base_fixed_point.specs.declared.FixType.{FixType}
use Rattle.diagram_blocks.specs.declared.Op.{Op}
use Rattle.diagram_meaning.specs.RowTimes.{RowTimes}
use Rattle.diagram_meaning.specs.DiagramTree.{DiagramTree, IsDiagram}
use Rattle.diagram_meaning.specs.Diagram.{Diagram, IsResolved}

-- a tree with the type, the operation and the sample time of each row
pub record ResolvedTree : Type 0 where
  pub tree : DiagramTree
  pub types : List FixType
  pub ops : List Op
  pub times : RowTimes

-- the diagram whose runs are defined
abbrev pub diagram_of : ResolvedTree → Diagram
diagram_of r = record { rows = r.tree.table.rows; types = r.types; ops = r.ops; run = r.times.run }

-- types, operations and times are those of the table
pub record IsResolvedTree (r : ResolvedTree) : Type 0 where
  pub tree : IsDiagram r.tree
  pub resolved : IsResolved r.tree.table r.types r.ops r.times
