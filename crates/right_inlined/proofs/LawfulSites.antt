-- In lawful code each leaf that is a parameter is one that there is.
use Rattle.std.specs.Prelude.{ℕ, ◌<◌, ⊤, List, ◌++◌}
use Rattle.std.specs.List.{AllByRecursion}
use Rattle.emit_pruned.proofs.lemmas.Numbers.{all-both}
use Rattle.c_syntax.specs.declared.code.Leaf.{Leaf}
use Rattle.c_syntax.specs.declared.code.Leaf.TheVariants.{Param, Own, Child}
use Rattle.c_syntax.specs.Tree.{ExprTree, literal, neg, read, binary, pick, pure, item, ExprTrees, no_exprs, more_exprs, CondTree, compare, both, either, negated, StmtTree, assign, assign_at, branch, call, StmtTrees, no_stmts, more_stmts, list_of_exprs}
use Rattle.c_syntax.specs.Lawful.{Reach, IsLawfulLeaf, IsLawfulExpr, AreLawfulExprs, IsLawfulCond, IsLawfulStmt, AreLawfulStmts}
use Rattle.emit_shape.specs.Reads.{expr_leaves, exprs_leaves, cond_leaves, StoreSite, IndexSite, CallSite, expr_indices, exprs_indices, cond_indices, stmt_stores, stores_in, stmt_tests, tests_in, stmt_calls, calls_in, stmt_indices, indices_in}

-- a parameter is one of so many
abbrev pub IsInside : ℕ → Leaf → Type 0
IsInside params (Param k) = k < params
IsInside params (Own f) = ⊤
IsInside params (Child f g) = ⊤

abbrev pub ExprInside : ℕ → ExprTree → Type 0
ExprInside params e = AllByRecursion (IsInside params) (expr_leaves e)

abbrev pub CondInside : ℕ → CondTree → Type 0
CondInside params c = AllByRecursion (IsInside params) (cond_leaves c)

abbrev pub StoreInside : ℕ → StoreSite → Type 0
StoreInside params st = ExprInside params st.value

abbrev pub IndexInside : ℕ → IndexSite → Type 0
IndexInside params i = ExprInside params i.index

abbrev pub CallInside : ℕ → CallSite → Type 0
CallInside params c = AllByRecursion (ExprInside params) c.values

module _ (reach : Reach) where
  abbrev Inside : Leaf → Type 0
  Inside = IsInside reach.params

  -- ---- Expressions

  leaf-inside : (leaf : Leaf) → IsLawfulLeaf reach leaf → Inside leaf
  leaf-inside (Param k) h = h
  leaf-inside (Own f) h = tt
  leaf-inside (Child f g) h = tt

  mutual
    expr-inside : (e : ExprTree) → IsLawfulExpr reach e → ExprInside reach.params e
    expr-inside (literal value) h = tt
    expr-inside (neg e) h = expr-inside e h
    expr-inside (read leaf) h = (leaf-inside leaf h, tt)
    expr-inside (binary op a b) h = all-both Inside (expr_leaves a) (expr_leaves b) (expr-inside a h.0) (expr-inside b h.1)
    expr-inside (pick test a b) h =
        all-both Inside (cond_leaves test ++ expr_leaves a) (expr_leaves b)
        (all-both Inside (cond_leaves test) (expr_leaves a) (cond-inside test h.0) (expr-inside a h.1)) (expr-inside b h.2)
    expr-inside (pure k es) (f, there, count, all) = exprs-inside es all
    expr-inside (item f index) h = (tt, expr-inside index h.1)

    exprs-inside : (es : ExprTrees) → AreLawfulExprs reach es → AllByRecursion Inside (exprs_leaves es)
    exprs-inside no_exprs h = tt
    exprs-inside (more_exprs e es) h = all-both Inside (expr_leaves e) (exprs_leaves es) (expr-inside e h.0) (exprs-inside es h.1)

    cond-inside : (c : CondTree) → IsLawfulCond reach c → CondInside reach.params c
    cond-inside (compare how a b) h = all-both Inside (expr_leaves a) (expr_leaves b) (expr-inside a h.0) (expr-inside b h.1)
    cond-inside (both a b) h = all-both Inside (cond_leaves a) (cond_leaves b) (cond-inside a h.0) (cond-inside b h.1)
    cond-inside (either a b) h = all-both Inside (cond_leaves a) (cond_leaves b) (cond-inside a h.0) (cond-inside b h.1)
    cond-inside (negated a) h = cond-inside a h

  values-inside : (es : ExprTrees) → AreLawfulExprs reach es → AllByRecursion (ExprInside reach.params) (list_of_exprs es)
  values-inside no_exprs h = tt
  values-inside (more_exprs e es) h = (expr-inside e h.0, values-inside es h.1)

  -- ---- Sites

  mutual
    stmt-stores-inside : (x : StmtTree) → IsLawfulStmt reach x → AllByRecursion (StoreInside reach.params) (stmt_stores x)
    stmt-stores-inside (assign line f e) h = (expr-inside e h.1, tt)
    stmt-stores-inside (assign_at line f index e) h = (expr-inside e h.2, tt)
    stmt-stores-inside (branch line test a b) h =
        all-both (StoreInside reach.params) (stores_in a) (stores_in b) (stores-inside a h.1) (stores-inside b h.2)
    stmt-stores-inside (call line k target es) h = tt

    pub stores-inside : (xs : StmtTrees) → AreLawfulStmts reach xs → AllByRecursion (StoreInside reach.params) (stores_in xs)
    stores-inside no_stmts h = tt
    stores-inside (more_stmts x xs) h =
        all-both (StoreInside reach.params) (stmt_stores x) (stores_in xs) (stmt-stores-inside x h.0) (stores-inside xs h.1)

  mutual
    stmt-tests-inside : (x : StmtTree) → IsLawfulStmt reach x → AllByRecursion (CondInside reach.params) (stmt_tests x)
    stmt-tests-inside (assign line f e) h = tt
    stmt-tests-inside (assign_at line f index e) h = tt
    stmt-tests-inside (branch line test a b) h = (
      cond-inside test h.0,
      all-both (CondInside reach.params) (tests_in a) (tests_in b) (tests-inside a h.1) (tests-inside b h.2),
    )
    stmt-tests-inside (call line k target es) h = tt

    pub tests-inside : (xs : StmtTrees) → AreLawfulStmts reach xs → AllByRecursion (CondInside reach.params) (tests_in xs)
    tests-inside no_stmts h = tt
    tests-inside (more_stmts x xs) h =
        all-both (CondInside reach.params) (stmt_tests x) (tests_in xs) (stmt-tests-inside x h.0) (tests-inside xs h.1)

  mutual
    stmt-calls-inside : (x : StmtTree) → IsLawfulStmt reach x → AllByRecursion (CallInside reach.params) (stmt_calls x)
    stmt-calls-inside (assign line f e) h = tt
    stmt-calls-inside (assign_at line f index e) h = tt
    stmt-calls-inside (branch line test a b) h =
        all-both (CallInside reach.params) (calls_in a) (calls_in b) (calls-inside a h.1) (calls-inside b h.2)
    stmt-calls-inside (call line k target es) (q, there, of, count, all) = (values-inside es all, tt)

    pub calls-inside : (xs : StmtTrees) → AreLawfulStmts reach xs → AllByRecursion (CallInside reach.params) (calls_in xs)
    calls-inside no_stmts h = tt
    calls-inside (more_stmts x xs) h =
        all-both (CallInside reach.params) (stmt_calls x) (calls_in xs) (stmt-calls-inside x h.0) (calls-inside xs h.1)

  -- ---- Indices

  abbrev IndicesInside : List IndexSite → Type 0
  IndicesInside = AllByRecursion (IndexInside reach.params)

  mutual
    expr-indices-inside : (e : ExprTree) → IsLawfulExpr reach e → IndicesInside (expr_indices e)
    expr-indices-inside (literal value) h = tt
    expr-indices-inside (neg e) h = expr-indices-inside e h
    expr-indices-inside (read leaf) h = tt
    expr-indices-inside (binary op a b) h =
        all-both (IndexInside reach.params) (expr_indices a) (expr_indices b) (expr-indices-inside a h.0) (expr-indices-inside b h.1)
    expr-indices-inside (pick test a b) h =
        all-both (IndexInside reach.params) (cond_indices test ++ expr_indices a) (expr_indices b)
        (all-both (IndexInside reach.params) (cond_indices test) (expr_indices a) (cond-indices-inside test h.0)
        (expr-indices-inside a h.1)) (expr-indices-inside b h.2)
    expr-indices-inside (pure k es) (f, there, count, all) = exprs-indices-inside es all
    expr-indices-inside (item f index) h = (expr-inside index h.1, expr-indices-inside index h.1)

    exprs-indices-inside : (es : ExprTrees) → AreLawfulExprs reach es → IndicesInside (exprs_indices es)
    exprs-indices-inside no_exprs h = tt
    exprs-indices-inside (more_exprs e es) h =
        all-both (IndexInside reach.params) (expr_indices e) (exprs_indices es) (expr-indices-inside e h.0) (exprs-indices-inside es h.1)

    cond-indices-inside : (c : CondTree) → IsLawfulCond reach c → IndicesInside (cond_indices c)
    cond-indices-inside (compare how a b) h =
        all-both (IndexInside reach.params) (expr_indices a) (expr_indices b) (expr-indices-inside a h.0) (expr-indices-inside b h.1)
    cond-indices-inside (both a b) h =
        all-both (IndexInside reach.params) (cond_indices a) (cond_indices b) (cond-indices-inside a h.0) (cond-indices-inside b h.1)
    cond-indices-inside (either a b) h =
        all-both (IndexInside reach.params) (cond_indices a) (cond_indices b) (cond-indices-inside a h.0) (cond-indices-inside b h.1)
    cond-indices-inside (negated a) h = cond-indices-inside a h

  mutual
    stmt-indices-inside : (x : StmtTree) → IsLawfulStmt reach x → IndicesInside (stmt_indices x)
    stmt-indices-inside (assign line f e) h = expr-indices-inside e h.1
    stmt-indices-inside (assign_at line f index e) h = (
      expr-inside index h.1,
      all-both (IndexInside reach.params) (expr_indices index) (expr_indices e) (expr-indices-inside index h.1) (expr-indices-inside e h.2),
    )
    stmt-indices-inside (branch line test a b) h =
        all-both (IndexInside reach.params) (cond_indices test ++ indices_in a) (indices_in b)
        (all-both (IndexInside reach.params) (cond_indices test) (indices_in a) (cond-indices-inside test h.0) (indices-inside a h.1))
        (indices-inside b h.2)
    stmt-indices-inside (call line k target es) (q, there, of, count, all) = exprs-indices-inside es all

    pub indices-inside : (xs : StmtTrees) → AreLawfulStmts reach xs → IndicesInside (indices_in xs)
    indices-inside no_stmts h = tt
    indices-inside (more_stmts x xs) h =
        all-both (IndexInside reach.params) (stmt_indices x) (indices_in xs) (stmt-indices-inside x h.0) (indices-inside xs h.1)
