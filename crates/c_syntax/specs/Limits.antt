-- The limits on depths and numbers of a program.
use Rattle.std.specs.Prelude.{ℕ, ◌+◌, ◌≤◌, max, length}
use Rattle.std.specs.List.{AllByRecursion}
use Rattle.c_syntax.specs.Tree.{ExprTree, ExprTrees, CondTree, StmtTree, StmtTrees, PureTree, ProcedureTree, ProgramTree, literal, neg, read, binary, pick, pure, item, no_exprs, more_exprs, compare, both, either, negated, assign, assign_at, branch, call, no_stmts, more_stmts}

-- the limits on depths and numbers
abbrev pub expr_limit : ℕ
expr_limit = 100

-- how deep statements may be nested
abbrev pub stmt_limit : ℕ
stmt_limit = 20

-- how many pure functions there may be
abbrev pub pure_limit : ℕ
pure_limit = 16

-- how many parameters a function or procedure may have
abbrev pub param_limit : ℕ
param_limit = 64

abbrev mutual
  -- how deep expressions and conditions nest; an outermost one is 1 deep
  pub expr_depth : ExprTree → ℕ
  expr_depth (literal value) = 1
  expr_depth (neg e) = expr_depth e + 1
  expr_depth (read leaf) = 1
  expr_depth (binary op a b) = max (expr_depth a) (expr_depth b) + 1
  expr_depth (pick test a b) = max (cond_depth test) (max (expr_depth a) (expr_depth b)) + 1
  expr_depth (pure function values) = exprs_depth values + 1
  expr_depth (item field index) = expr_depth index + 1

  pub exprs_depth : ExprTrees → ℕ
  exprs_depth no_exprs = 0
  exprs_depth (more_exprs e es) = max (expr_depth e) (exprs_depth es)

  pub cond_depth : CondTree → ℕ
  cond_depth (compare how a b) = max (expr_depth a) (expr_depth b) + 1
  cond_depth (both a b) = max (cond_depth a) (cond_depth b) + 1
  cond_depth (either a b) = max (cond_depth a) (cond_depth b) + 1
  cond_depth (negated a) = cond_depth a + 1

abbrev mutual
  -- how deep statements nest; an outermost one is 1 deep
  pub stmt_depth : StmtTree → ℕ
  stmt_depth (assign line field value) = 1
  stmt_depth (assign_at line field index value) = 1
  stmt_depth (branch line test on_true on_false) =
      max (stmts_depth on_true) (stmts_depth on_false) + 1
  stmt_depth (call line procedure target values) = 1

  pub stmts_depth : StmtTrees → ℕ
  stmts_depth no_stmts = 0
  stmts_depth (more_stmts s ss) = max (stmt_depth s) (stmts_depth ss)

abbrev mutual
  -- the greatest depth of the expressions and conditions in statements
  pub stmt_exprs_depth : StmtTree → ℕ
  stmt_exprs_depth (assign line field value) = expr_depth value
  stmt_exprs_depth (assign_at line field index value) = max (expr_depth index) (expr_depth value)
  stmt_exprs_depth (branch line test on_true on_false) =
      max (cond_depth test) (max (stmts_exprs_depth on_true) (stmts_exprs_depth on_false))
  stmt_exprs_depth (call line procedure target values) = exprs_depth values

  pub stmts_exprs_depth : StmtTrees → ℕ
  stmts_exprs_depth no_stmts = 0
  stmts_exprs_depth (more_stmts s ss) = max (stmt_exprs_depth s) (stmts_exprs_depth ss)

-- a pure function and a procedure within the limits
pub record PureFits (p : PureTree) : Type 0 where
  pub params : length p.params ≤ param_limit
  pub body : expr_depth p.body ≤ expr_limit

-- a procedure within the limits on depths and parameters
pub record ProcedureFits (p : ProcedureTree) : Type 0 where
  pub params : length p.params ≤ param_limit
  pub statements : stmts_depth p.body ≤ stmt_limit
  pub expressions : stmts_exprs_depth p.body ≤ expr_limit

-- a program within the limits on depths and numbers
pub record IsWithinLimits (p : ProgramTree) : Type 0 where
  pub count : length p.pures ≤ pure_limit
  pub pures : AllByRecursion PureFits p.pures
  pub procedures : AllByRecursion ProcedureFits p.procedures
