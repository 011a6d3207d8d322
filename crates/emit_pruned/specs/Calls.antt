-- Which pure functions code calls, each by its position.
use Rattle.std.specs.Prelude.{ℕ, ◌<◌, List, [], ◌∷◌, ◌++◌, flat_map, length, Contains}
use Rattle.c_syntax.specs.Tree.{ExprTree, literal, neg, read, binary, pick, pure, item, ExprTrees, no_exprs, more_exprs, CondTree, compare, both, either, negated, StmtTree, assign, assign_at, branch, call, StmtTrees, no_stmts, more_stmts, PureTree, ProcedureTree, ProgramTree}

abbrev mutual
  -- those that an expression, expressions and a condition call
  pub expr_functions : ExprTree → List ℕ
  expr_functions (literal value) = []
  expr_functions (neg e) = expr_functions e
  expr_functions (read leaf) = []
  expr_functions (binary op a b) = expr_functions a ++ expr_functions b
  expr_functions (pick test a b) = cond_functions test ++ expr_functions a ++ expr_functions b
  expr_functions (pure function values) = function ∷ exprs_functions values
  expr_functions (item field index) = expr_functions index

  pub exprs_functions : ExprTrees → List ℕ
  exprs_functions no_exprs = []
  exprs_functions (more_exprs e es) = expr_functions e ++ exprs_functions es

  pub cond_functions : CondTree → List ℕ
  cond_functions (compare how a b) = expr_functions a ++ expr_functions b
  cond_functions (both a b) = cond_functions a ++ cond_functions b
  cond_functions (either a b) = cond_functions a ++ cond_functions b
  cond_functions (negated a) = cond_functions a

abbrev mutual
  -- those that a statement and statements call
  pub stmt_functions : StmtTree → List ℕ
  stmt_functions (assign line field value) = expr_functions value
  stmt_functions (assign_at line field index value) = expr_functions index ++ expr_functions value
  stmt_functions (branch line test on_true on_false) =
      cond_functions test ++ stmts_functions on_true ++ stmts_functions on_false
  stmt_functions (call line procedure target values) = exprs_functions values

  pub stmts_functions : StmtTrees → List ℕ
  stmts_functions no_stmts = []
  stmts_functions (more_stmts s ss) = stmt_functions s ++ stmts_functions ss

-- those that procedures call
abbrev pub procedures_functions : List ProcedureTree → List ℕ
procedures_functions procedures = flat_map (λ q. stmts_functions q.body) procedures

-- those that pure functions call
abbrev pub pures_functions : List PureTree → List ℕ
pures_functions pures = flat_map (λ f. expr_functions f.body) pures

-- those that something in a program calls
abbrev pub called_functions : ProgramTree → List ℕ
called_functions p = procedures_functions p.procedures ++ pures_functions p.pures

-- each pure function of a program is called
abbrev pub NoneIdle : ProgramTree → Type 0
NoneIdle p = (k : ℕ) → k < length p.pures → Contains (called_functions p) k
