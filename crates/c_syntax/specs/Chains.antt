-- Chains of calls: each procedure calls the next.
use Rattle.std.specs.Prelude.{ℕ, max, List, slice_index}
use Rattle.c_syntax.specs.Tree.{StmtTree, StmtTrees}

-- the most procedures in a chain of calls
abbrev pub chain_limit : ℕ
chain_limit = 128

abbrev mutual
  -- the longest chain of calls that begins with a call in a statement
  pub stmt_chain : List ℕ → StmtTree → ℕ
  stmt_chain chains (StmtTree.assign line k x) = 0
  stmt_chain chains (StmtTree.assign_at line k index x) = 0
  stmt_chain chains (StmtTree.branch line c xs ys) =
      max (stmts_chain chains xs) (stmts_chain chains ys)
  stmt_chain chains (StmtTree.call line k target xs) = slice_index chains k

  pub stmts_chain : List ℕ → StmtTrees → ℕ
  stmts_chain chains StmtTrees.no_stmts = 0
  stmts_chain chains (StmtTrees.more_stmts x xs) = max (stmt_chain chains x) (stmts_chain chains xs)
