-- What the inputs of a system directly inside read, over the places of a node's names.
use Rattle.std.specs.Prelude.{ℕ, Option, Some, None, pos}
use Rattle.emit_shape.specs.Names.{value_name}
use Rattle.lustre_syntax.specs.Tree.{ExprTree, number, name}
use Rattle.lustre_expressions.specs.declared.scopes.RowNames.{RowNames}
use Rattle.lustre_expressions.specs.Found.{place_in}

-- the value of the row that a wire comes from, and 0 where there is no wire
abbrev pub read_at : RowNames → Option ℕ → ExprTree
read_at names None = number (pos 0)
read_at names (Some c) = name (place_in names.places.now (value_name c))
