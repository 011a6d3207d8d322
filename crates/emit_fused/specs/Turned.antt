-- Statements turned round: the last one first, at each depth.
use Rattle.std.specs.Prelude.{Bool, true, false, List, map}
use Rattle.c_syntax.specs.declared.code.Stmt.{Stmt}
use Rattle.c_syntax.specs.Tree.{CondTree, StmtTree, assign, assign_at, branch, call, StmtTrees, no_stmts, more_stmts, stmts_of_list}
use Rattle.c_syntax.specs.Plain.{stmt_tree}
use Rattle.emit_fused.specs.Same.{opposite}
use Rattle.emit_fused.specs.Fused.{fused_stmt}

abbrev mutual
  pub turned_stmt : StmtTree → StmtTree
  turned_stmt (assign line f value) = assign line f value
  turned_stmt (assign_at line f index value) = assign_at line f index value
  turned_stmt (branch line test on_true on_false) =
      branch line test (turned_onto on_true no_stmts) (turned_onto on_false no_stmts)
  turned_stmt (call line k target values) = call line k target values

  -- before others
  pub turned_onto : StmtTrees → StmtTrees → StmtTrees
  turned_onto no_stmts later = later
  turned_onto (more_stmts s ss) later = turned_onto ss (more_stmts (turned_stmt s) later)

-- statements of the source, as they are
abbrev pub standing : List Stmt → StmtTrees
standing ss = stmts_of_list (map stmt_tree ss)

-- and turned round
abbrev pub turned : List Stmt → StmtTrees
turned ss = turned_onto (standing ss) no_stmts

-- ---- Single statements

-- an `if`
abbrev pub is_choice : StmtTree → Bool
is_choice (branch line test on_true on_false) = true
is_choice _ = false

-- a simplified statement; an `if` as it is
abbrev pub simplified_stmt : StmtTree → StmtTree
simplified_stmt (branch line test on_true on_false) = branch line test on_true on_false
simplified_stmt (assign line f value) = fused_stmt (assign line f value)
simplified_stmt (assign_at line f index value) = fused_stmt (assign_at line f index value)
simplified_stmt (call line k target values) = fused_stmt (call line k target values)

-- what an `if` does where its test holds, and of another statement these
abbrev pub on_true_of : StmtTree → StmtTrees → StmtTrees
on_true_of (branch line test on_true on_false) others = on_true
on_true_of _ others = others

-- an `if` by the opposite of a test, alone and without an `else`
abbrev pub is_decided : CondTree → StmtTrees → Bool
is_decided test (more_stmts (branch line other on_true no_stmts) no_stmts) = opposite test other
is_decided test ss = false
