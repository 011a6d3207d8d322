-- Code over other leaves, pure functions and procedures.
use Rattle.std.specs.Prelude.{ℕ}
use Rattle.c_syntax.specs.declared.Leaf.{Leaf}
use Rattle.c_syntax.specs.Tree.{ExprTree, literal, neg, read, binary, pick, pure, item, ExprTrees, no_exprs, more_exprs, CondTree, compare, both, either, negated, StmtTree, assign, assign_at, branch, call, StmtTrees, no_stmts, more_stmts, PureTree, ProcedureTree}

-- what each leaf, pure function and procedure is now
module _ (leaf : Leaf → Leaf) (function procedure : ℕ → ℕ) where
  abbrev mutual
    -- an expression, expressions and a condition
    pub renamed_expr : ExprTree → ExprTree
    renamed_expr (literal value) = literal value
    renamed_expr (neg e) = neg (renamed_expr e)
    renamed_expr (read l) = read (leaf l)
    renamed_expr (binary op a b) = binary op (renamed_expr a) (renamed_expr b)
    renamed_expr (pick test a b) = pick (renamed_cond test) (renamed_expr a) (renamed_expr b)
    renamed_expr (pure k values) = pure (function k) (renamed_exprs values)
    renamed_expr (item field index) = item field (renamed_expr index)

    pub renamed_exprs : ExprTrees → ExprTrees
    renamed_exprs no_exprs = no_exprs
    renamed_exprs (more_exprs e es) = more_exprs (renamed_expr e) (renamed_exprs es)

    pub renamed_cond : CondTree → CondTree
    renamed_cond (compare how a b) = compare how (renamed_expr a) (renamed_expr b)
    renamed_cond (both a b) = both (renamed_cond a) (renamed_cond b)
    renamed_cond (either a b) = either (renamed_cond a) (renamed_cond b)
    renamed_cond (negated a) = negated (renamed_cond a)

  abbrev mutual
    -- a statement and statements
    pub renamed_stmt : StmtTree → StmtTree
    renamed_stmt (assign line field value) = assign line field (renamed_expr value)
    renamed_stmt (assign_at line field index value) =
        assign_at line field (renamed_expr index) (renamed_expr value)
    renamed_stmt (branch line test on_true on_false) =
        branch line (renamed_cond test) (renamed_stmts on_true) (renamed_stmts on_false)
    renamed_stmt (call line k target values) = call line (procedure k) target (renamed_exprs values)

    pub renamed_stmts : StmtTrees → StmtTrees
    renamed_stmts no_stmts = no_stmts
    renamed_stmts (more_stmts s ss) = more_stmts (renamed_stmt s) (renamed_stmts ss)

  -- a pure function and a procedure
  abbrev pub renamed_pure : PureTree → PureTree
  renamed_pure f = record {
    name = f.name;
    params = f.params;
    body = renamed_expr f.body;
    line = f.line;
  }

  abbrev pub renamed_procedure : ProcedureTree → ProcedureTree
  renamed_procedure q = record {
    name = q.name;
    private = q.private;
    of = q.of;
    params = q.params;
    body = renamed_stmts q.body;
  }
