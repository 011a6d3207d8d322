-- Code that is renamed twice, and code in which only procedures are.
use Rattle.std.specs.Prelude.{◌≡◌, ℕ}
use Rattle.std.proofs.Common.{refl, ap}
use Rattle.c_syntax.specs.declared.code.Leaf.{Leaf}
use Rattle.c_syntax.specs.Tree.{ExprTree, literal, neg, read, binary, pick, pure, item, ExprTrees, no_exprs, more_exprs, CondTree, compare, both, either, negated, StmtTree, assign, assign_at, branch, call, StmtTrees, no_stmts, more_stmts}
use Rattle.c_renaming.specs.Renamed.{renamed_expr, renamed_exprs, renamed_cond, renamed_stmt, renamed_stmts}

-- ---- Renamed twice

module _ (leaf after : Leaf → Leaf) (function procedure later last : ℕ → ℕ) where
  mutual
    expr-twice : (e : ExprTree) → renamed_expr after later last (renamed_expr leaf function procedure e)
        ≡ renamed_expr (λ l. after (leaf l)) (λ k. later (function k)) (λ k. last (procedure k)) e
    expr-twice (literal value) = refl
    expr-twice (neg e) = ap neg (expr-twice e)
    expr-twice (read l) = refl
    expr-twice (binary op a b) = λ i. binary op (expr-twice a i) (expr-twice b i)
    expr-twice (pick test a b) = λ i. pick (cond-twice test i) (expr-twice a i) (expr-twice b i)
    expr-twice (pure k es) = λ i. pure (later (function k)) (exprs-twice es i)
    expr-twice (item f index) = ap (item f) (expr-twice index)

    exprs-twice : (es : ExprTrees) → renamed_exprs after later last (renamed_exprs leaf function procedure es)
        ≡ renamed_exprs (λ l. after (leaf l)) (λ k. later (function k)) (λ k. last (procedure k)) es
    exprs-twice no_exprs = refl
    exprs-twice (more_exprs e es) = λ i. more_exprs (expr-twice e i) (exprs-twice es i)

    cond-twice : (c : CondTree) → renamed_cond after later last (renamed_cond leaf function procedure c)
        ≡ renamed_cond (λ l. after (leaf l)) (λ k. later (function k)) (λ k. last (procedure k)) c
    cond-twice (compare how a b) = λ i. compare how (expr-twice a i) (expr-twice b i)
    cond-twice (both a b) = λ i. both (cond-twice a i) (cond-twice b i)
    cond-twice (either a b) = λ i. either (cond-twice a i) (cond-twice b i)
    cond-twice (negated a) = ap negated (cond-twice a)

  mutual
    stmt-twice : (s : StmtTree) → renamed_stmt after later last (renamed_stmt leaf function procedure s)
        ≡ renamed_stmt (λ l. after (leaf l)) (λ k. later (function k)) (λ k. last (procedure k)) s
    stmt-twice (assign line f e) = ap (assign line f) (expr-twice e)
    stmt-twice (assign_at line f index e) = λ i. assign_at line f (expr-twice index i) (expr-twice e i)
    stmt-twice (branch line test a b) = λ i. branch line (cond-twice test i) (stmts-twice a i) (stmts-twice b i)
    stmt-twice (call line k target es) = ap (call line (last (procedure k)) target) (exprs-twice es)

    pub stmts-twice : (ss : StmtTrees) → renamed_stmts after later last (renamed_stmts leaf function procedure ss)
        ≡ renamed_stmts (λ l. after (leaf l)) (λ k. later (function k)) (λ k. last (procedure k)) ss
    stmts-twice no_stmts = refl
    stmts-twice (more_stmts s ss) = λ i. more_stmts (stmt-twice s i) (stmts-twice ss i)

-- ---- Procedures alone

-- no expression calls a procedure
module _ (number : ℕ → ℕ) where
  mutual
    pub expr-same : (e : ExprTree) → renamed_expr (λ l. l) (λ k. k) number e ≡ e
    expr-same (literal value) = refl
    expr-same (neg e) = ap neg (expr-same e)
    expr-same (read l) = refl
    expr-same (binary op a b) = λ i. binary op (expr-same a i) (expr-same b i)
    expr-same (pick test a b) = λ i. pick (cond-same test i) (expr-same a i) (expr-same b i)
    expr-same (pure k es) = ap (pure k) (exprs-same es)
    expr-same (item f index) = ap (item f) (expr-same index)

    pub exprs-same : (es : ExprTrees) → renamed_exprs (λ l. l) (λ k. k) number es ≡ es
    exprs-same no_exprs = refl
    exprs-same (more_exprs e es) = λ i. more_exprs (expr-same e i) (exprs-same es i)

    pub cond-same : (c : CondTree) → renamed_cond (λ l. l) (λ k. k) number c ≡ c
    cond-same (compare how a b) = λ i. compare how (expr-same a i) (expr-same b i)
    cond-same (both a b) = λ i. both (cond-same a i) (cond-same b i)
    cond-same (either a b) = λ i. either (cond-same a i) (cond-same b i)
    cond-same (negated a) = ap negated (cond-same a)
