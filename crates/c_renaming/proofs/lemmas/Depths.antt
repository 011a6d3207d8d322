-- Code over other leaves, pure functions and procedures is as deep as before, and calls have as many values.
use Rattle.std.specs.Prelude.{◌≡◌, ℕ, ◌+◌, max}
use Rattle.std.proofs.Common.{refl, ap}
use Rattle.c_syntax.specs.declared.code.Leaf.{Leaf}
use Rattle.c_syntax.specs.Tree.{ExprTree, literal, neg, read, binary, pick, pure, item, ExprTrees, no_exprs, more_exprs, CondTree, compare, both, either, negated, StmtTree, assign, assign_at, branch, call, StmtTrees, no_stmts, more_stmts}
use Rattle.c_syntax.specs.Limits.{expr_depth, exprs_depth, cond_depth, stmt_depth, stmts_depth, stmt_exprs_depth, stmts_exprs_depth}
use Rattle.c_syntax.specs.Lawful.{exprs_length}
use Rattle.c_renaming.specs.Renamed.{renamed_expr, renamed_exprs, renamed_cond, renamed_stmt, renamed_stmts}

module _ (leaf : Leaf → Leaf) (function procedure : ℕ → ℕ) where
  pub same-count : (es : ExprTrees) → exprs_length (renamed_exprs leaf function procedure es) ≡ exprs_length es
  same-count no_exprs = refl
  same-count (more_exprs e es) = ap (λ n. n + 1) (same-count es)

  mutual
    pub expr-depth : (e : ExprTree) → expr_depth (renamed_expr leaf function procedure e) ≡ expr_depth e
    expr-depth (literal value) = refl
    expr-depth (neg e) = ap (λ n. n + 1) (expr-depth e)
    expr-depth (read l) = refl
    expr-depth (binary op a b) = λ i. max (expr-depth a i) (expr-depth b i) + 1
    expr-depth (pick test a b) = λ i. max (cond-depth test i) (max (expr-depth a i) (expr-depth b i)) + 1
    expr-depth (pure k es) = ap (λ n. n + 1) (exprs-depth es)
    expr-depth (item f index) = ap (λ n. n + 1) (expr-depth index)

    pub exprs-depth : (es : ExprTrees) → exprs_depth (renamed_exprs leaf function procedure es) ≡ exprs_depth es
    exprs-depth no_exprs = refl
    exprs-depth (more_exprs e es) = λ i. max (expr-depth e i) (exprs-depth es i)

    pub cond-depth : (c : CondTree) → cond_depth (renamed_cond leaf function procedure c) ≡ cond_depth c
    cond-depth (compare how a b) = λ i. max (expr-depth a i) (expr-depth b i) + 1
    cond-depth (both a b) = λ i. max (cond-depth a i) (cond-depth b i) + 1
    cond-depth (either a b) = λ i. max (cond-depth a i) (cond-depth b i) + 1
    cond-depth (negated a) = ap (λ n. n + 1) (cond-depth a)

  mutual
    pub stmt-depth : (x : StmtTree) → stmt_depth (renamed_stmt leaf function procedure x) ≡ stmt_depth x
    stmt-depth (assign line f e) = refl
    stmt-depth (assign_at line f index e) = refl
    stmt-depth (branch line test on_true on_false) = λ i. max (stmts-depth on_true i) (stmts-depth on_false i) + 1
    stmt-depth (call line k target es) = refl

    pub stmts-depth : (xs : StmtTrees) → stmts_depth (renamed_stmts leaf function procedure xs) ≡ stmts_depth xs
    stmts-depth no_stmts = refl
    stmts-depth (more_stmts x xs) = λ i. max (stmt-depth x i) (stmts-depth xs i)

  mutual
    pub stmt-exprs-depth : (x : StmtTree) → stmt_exprs_depth (renamed_stmt leaf function procedure x) ≡ stmt_exprs_depth x
    stmt-exprs-depth (assign line f e) = expr-depth e
    stmt-exprs-depth (assign_at line f index e) = λ i. max (expr-depth index i) (expr-depth e i)
    stmt-exprs-depth (branch line test on_true on_false) = λ i.
        max (cond-depth test i) (max (stmts-exprs-depth on_true i) (stmts-exprs-depth on_false i))
    stmt-exprs-depth (call line k target es) = exprs-depth es

    pub stmts-exprs-depth : (xs : StmtTrees) → stmts_exprs_depth (renamed_stmts leaf function procedure xs) ≡ stmts_exprs_depth xs
    stmts-exprs-depth no_stmts = refl
    stmts-exprs-depth (more_stmts x xs) = λ i. max (stmt-exprs-depth x i) (stmts-exprs-depth xs i)
