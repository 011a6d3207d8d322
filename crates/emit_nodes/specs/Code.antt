-- The code that statements are.
use Rattle.std.specs.Prelude.{List, map}
use Rattle.c_syntax.specs.declared.code.Stmt.{Stmt}
use Rattle.c_syntax.specs.Tree.{StmtTrees, stmts_of_list}
use Rattle.c_syntax.specs.Plain.{stmt_tree}

abbrev pub code_of : List Stmt → StmtTrees
code_of statements = stmts_of_list (map stmt_tree statements)
