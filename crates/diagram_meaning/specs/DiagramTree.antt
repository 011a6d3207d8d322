-- What contracts see of a tree: its table, and its nested subsystems, which agree with it.
use Rattle.diagram_meaning.specs.declared.subsystem.Subsystem.{Subsystem}
use Rattle.diagram_meaning.specs.RowTable.{RowTable}
use Rattle.diagram_meaning.specs.WellFormed.{IsWellFormed}
use Rattle.diagram_meaning.specs.Nested.{system_of, AreSystemsOf}

-- a table and its nested subsystems
pub record DiagramTree : Type 0 where
  pub table : RowTable
  pub root : Subsystem

-- a table that stands for a model, with its nested subsystems
pub record IsDiagram (tree : DiagramTree) : Type 0 where
  pub table : IsWellFormed tree.table
  pub systems : AreSystemsOf tree.table.rows (system_of tree.root)
