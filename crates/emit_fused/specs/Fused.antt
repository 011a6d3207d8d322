-- Code in which neighbouring `if`s of one test are one.
use Rattle.std.specs.Prelude.{◌&&◌, if◌then◌else◌, map}
use Rattle.c_syntax.specs.Tree.{CondTree, StmtTree, assign, assign_at, branch, call, StmtTrees, no_stmts, more_stmts, ProcedureTree, ProgramTree}
use Rattle.emit_fused.specs.Same.{same_cond, is_not_of, opposite}
use Rattle.emit_fused.specs.Kept.{keep_test}
use Rattle.emit_fused.specs.Simplified.{simplified_expr, simplified_exprs}

-- ---- Neighbours

abbrev mutual
  -- A statement before others. Where it is an `if`, and an `if` by the same test or by its opposite
  -- follows, the two are one by the test without `!`, if the first leaves what the test reads.
  pub put_before : StmtTree → StmtTrees → StmtTrees
  put_before (branch line test a b) (more_stmts (branch later other c d) rest) =
      if keep_test test a b && same_cond test other
      then more_stmts (branch line test (joined a c) (joined b d)) rest
      else if keep_test test a b && is_not_of other test
      then more_stmts (branch line test (joined a d) (joined b c)) rest
      else if keep_test test a b && is_not_of test other
      then more_stmts (branch line other (joined b c) (joined a d)) rest
      else more_stmts (branch line test a b) (more_stmts (branch later other c d) rest)
  put_before s ss = more_stmts s ss

  -- statements before others
  pub joined : StmtTrees → StmtTrees → StmtTrees
  joined no_stmts later = later
  joined (more_stmts s ss) later = put_before s (joined ss later)

-- ---- Tests that are decided

-- What is done where a test fails. An `if` by its opposite, alone and without an `else`, is only
-- what that does.
abbrev pub where_fails : CondTree → StmtTrees → StmtTrees
where_fails test (more_stmts (branch line other on_true no_stmts) no_stmts) =
    if opposite test other then on_true
    else more_stmts (branch line other on_true no_stmts) no_stmts
where_fails test ss = ss

-- ---- Statements, procedures and programs

-- tests stay as they are, so that what they read is still read
abbrev mutual
  pub fused_stmt : StmtTree → StmtTree
  fused_stmt (assign line f value) = assign line f (simplified_expr value)
  fused_stmt (assign_at line f index value) =
      assign_at line f (simplified_expr index) (simplified_expr value)
  fused_stmt (branch line test on_true on_false) =
      branch line test (fused_stmts on_true) (where_fails test (fused_stmts on_false))
  fused_stmt (call line k target values) = call line k target (simplified_exprs values)

  pub fused_stmts : StmtTrees → StmtTrees
  fused_stmts no_stmts = no_stmts
  fused_stmts (more_stmts s ss) = put_before (fused_stmt s) (fused_stmts ss)

abbrev pub fused_procedure : ProcedureTree → ProcedureTree
fused_procedure q = record {
  name = q.name;
  private = q.private;
  of = q.of;
  params = q.params;
  body = fused_stmts q.body;
}

-- the pure functions stay as they are
abbrev pub fused : ProgramTree → ProgramTree
fused p =
    record {
      pures = p.pures;
      structs = p.structs;
      procedures = map fused_procedure p.procedures;
    }
