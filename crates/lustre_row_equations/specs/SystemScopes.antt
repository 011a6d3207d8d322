-- A system of a diagram with the names of its node.
use Rattle.std.specs.Prelude.{ℕ, ◌<◌, None, length}
use Rattle.diagram_meaning.specs.Diagram.{Diagram}
use Rattle.diagram_meaning.specs.ResolvedTree.{diagram_of}
use Rattle.lustre_expressions.specs.Scopes.{AreNamesOf}
use Rattle.lustre_row_equations.specs.declared.scopes.SystemScope.{SystemScope}

-- its diagram
abbrev pub diagram_in : SystemScope → Diagram
diagram_in scope = diagram_of scope.diagram.now

-- the diagram has this row
abbrev pub HasRow : SystemScope → ℕ → Type 0
HasRow scope b = b < length scope.diagram.now.tree.table.rows

-- the names are those of the system, and of no row
abbrev pub HasOwnNames : SystemScope → Type 0
HasOwnNames scope = AreNamesOf scope.names.now scope.diagram.now.tree.table.rows scope.system None
