-- The trees of what lists hold.
use Rattle.std.specs.Prelude.{List, map}
use Rattle.c_syntax.specs.declared.code.Expr.{Expr}
use Rattle.c_syntax.specs.declared.code.Stmt.{Stmt}
use Rattle.c_syntax.specs.Tree.{ExprTrees, exprs_of_list, StmtTrees, stmts_of_list}
use Rattle.c_syntax.specs.Plain.{expr_tree, stmt_tree}

abbrev pub row : List Expr → ExprTrees
row xs = exprs_of_list (map expr_tree xs)

abbrev pub statements : List Stmt → StmtTrees
statements xs = stmts_of_list (map stmt_tree xs)
