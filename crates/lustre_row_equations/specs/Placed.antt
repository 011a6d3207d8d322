-- Expressions and equations by names, over the places of a node's names and of callees.
use Rattle.std.specs.Prelude.{List, map}
use Rattle.lustre_syntax.specs.Tree.{ExprTree, EquationTree}
use Rattle.lustre_syntax.specs.Named.{NamedExpr, NamedEquation, renamed, renamed_equation}
use Rattle.lustre_expressions.specs.declared.scopes.RowNames.{RowNames}
use Rattle.lustre_expressions.specs.Found.{place_in}

module _ (names : RowNames) where
  -- an expression
  abbrev pub placed_expr : NamedExpr → ExprTree
  placed_expr e = renamed (place_in names.places.now) e

  -- an equation
  abbrev pub placed_equation : NamedEquation → EquationTree
  placed_equation e =
      renamed_equation (place_in names.places.now) (place_in names.callees.now.places.now) e

  -- equations, in order
  abbrev pub placed_equations : List NamedEquation → List EquationTree
  placed_equations es = map placed_equation es
