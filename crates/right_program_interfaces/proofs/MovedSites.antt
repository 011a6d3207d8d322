-- What code reads, stores, tests and calls where it is moved to.
use Rattle.std.specs.Prelude.{◌≡◌, List, [], ◌∷◌, ◌++◌, map, flat_map}
use Rattle.std.proofs.Common.{refl, sym, ap, ap₂, ◌∙◌}
use Rattle.std.proofs.lemmas.List.{map-append}
use Rattle.c_syntax.specs.declared.Leaf.TheVariants.{Own}
use Rattle.c_syntax.specs.Tree.{ExprTree, literal, neg, read, binary, pick, pure, item, ExprTrees, no_exprs, more_exprs, CondTree, compare, both, either, negated, StmtTree, assign, assign_at, branch, call, StmtTrees, no_stmts, more_stmts, ProcedureTree, list_of_exprs}
use Rattle.emit_shape.specs.Reads.{StoreSite, IndexSite, CallSite, expr_leaves, exprs_leaves, cond_leaves, expr_indices, exprs_indices, cond_indices, stmt_stores, stores_in, stmt_tests, tests_in, stmt_calls, calls_in, stmt_indices, indices_in}
use Rattle.emit_shape.specs.Relocation.{Relocation, moved_number, moved_leaf, moved_expr, moved_exprs, moved_cond, moved_stmt, moved_stmts, moved_procedure}

joined : {A B : Type 0} (f : A → B) (xs ys : List A) (us ws : List B) → us ≡ map f xs → ws ≡ map f ys → us ++ ws ≡ map f (xs ++ ys)
joined f xs ys us ws one two = ap₂ (λ zs rs. zs ++ rs) one two ∙ sym (map-append f xs ys)

module _ (m : Relocation) where
  -- a store, an index and a call where they are moved to
  abbrev pub moved_store : StoreSite → StoreSite
  moved_store st = record { field = st.field; value = moved_expr m st.value }

  abbrev pub moved_index : IndexSite → IndexSite
  moved_index i = record { field = i.field; index = moved_expr m i.index }

  abbrev pub moved_call : CallSite → CallSite
  moved_call c = record { procedure = moved_number m c.procedure; target = c.target; values = map (moved_expr m) c.values }

  -- ---- Expressions

  mutual
    pub expr-leaves : (e : ExprTree) → expr_leaves (moved_expr m e) ≡ map (moved_leaf m) (expr_leaves e)
    expr-leaves (literal value) = refl
    expr-leaves (neg e) = expr-leaves e
    expr-leaves (read l) = refl
    expr-leaves (binary op a b) = joined (moved_leaf m) (expr_leaves a) (expr_leaves b) _ _ (expr-leaves a) (expr-leaves b)
    expr-leaves (pick test a b) =
        joined (moved_leaf m) (cond_leaves test ++ expr_leaves a) (expr_leaves b) _ _
        (joined (moved_leaf m) (cond_leaves test) (expr_leaves a) _ _ (cond-leaves test) (expr-leaves a)) (expr-leaves b)
    expr-leaves (pure k es) = exprs-leaves es
    expr-leaves (item f index) = ap (λ ls. Own f ∷ ls) (expr-leaves index)

    exprs-leaves : (es : ExprTrees) → exprs_leaves (moved_exprs m es) ≡ map (moved_leaf m) (exprs_leaves es)
    exprs-leaves no_exprs = refl
    exprs-leaves (more_exprs e es) = joined (moved_leaf m) (expr_leaves e) (exprs_leaves es) _ _ (expr-leaves e) (exprs-leaves es)

    pub cond-leaves : (c : CondTree) → cond_leaves (moved_cond m c) ≡ map (moved_leaf m) (cond_leaves c)
    cond-leaves (compare how a b) = joined (moved_leaf m) (expr_leaves a) (expr_leaves b) _ _ (expr-leaves a) (expr-leaves b)
    cond-leaves (both a b) = joined (moved_leaf m) (cond_leaves a) (cond_leaves b) _ _ (cond-leaves a) (cond-leaves b)
    cond-leaves (either a b) = joined (moved_leaf m) (cond_leaves a) (cond_leaves b) _ _ (cond-leaves a) (cond-leaves b)
    cond-leaves (negated a) = cond-leaves a

  mutual
    expr-indices : (e : ExprTree) → expr_indices (moved_expr m e) ≡ map moved_index (expr_indices e)
    expr-indices (literal value) = refl
    expr-indices (neg e) = expr-indices e
    expr-indices (read l) = refl
    expr-indices (binary op a b) = joined moved_index (expr_indices a) (expr_indices b) _ _ (expr-indices a) (expr-indices b)
    expr-indices (pick test a b) =
        joined moved_index (cond_indices test ++ expr_indices a) (expr_indices b) _ _
        (joined moved_index (cond_indices test) (expr_indices a) _ _ (cond-indices test) (expr-indices a)) (expr-indices b)
    expr-indices (pure k es) = exprs-indices es
    expr-indices (item f index) = ap (λ is. record { field = f; index = moved_expr m index } ∷ is) (expr-indices index)

    exprs-indices : (es : ExprTrees) → exprs_indices (moved_exprs m es) ≡ map moved_index (exprs_indices es)
    exprs-indices no_exprs = refl
    exprs-indices (more_exprs e es) = joined moved_index (expr_indices e) (exprs_indices es) _ _ (expr-indices e) (exprs-indices es)

    cond-indices : (c : CondTree) → cond_indices (moved_cond m c) ≡ map moved_index (cond_indices c)
    cond-indices (compare how a b) = joined moved_index (expr_indices a) (expr_indices b) _ _ (expr-indices a) (expr-indices b)
    cond-indices (both a b) = joined moved_index (cond_indices a) (cond_indices b) _ _ (cond-indices a) (cond-indices b)
    cond-indices (either a b) = joined moved_index (cond_indices a) (cond_indices b) _ _ (cond-indices a) (cond-indices b)
    cond-indices (negated a) = cond-indices a

  values-moved : (es : ExprTrees) → list_of_exprs (moved_exprs m es) ≡ map (moved_expr m) (list_of_exprs es)
  values-moved no_exprs = refl
  values-moved (more_exprs e es) = ap (λ vs. moved_expr m e ∷ vs) (values-moved es)

  -- ---- Statements

  mutual
    stmt-stores : (s : StmtTree) → stmt_stores (moved_stmt m s) ≡ map moved_store (stmt_stores s)
    stmt-stores (assign line f e) = refl
    stmt-stores (assign_at line f index e) = refl
    stmt-stores (branch line test on_true on_false) = joined moved_store (stores_in on_true) (stores_in on_false) _ _
        (stores-moved on_true) (stores-moved on_false)
    stmt-stores (call line k target es) = refl

    pub stores-moved : (ss : StmtTrees) → stores_in (moved_stmts m ss) ≡ map moved_store (stores_in ss)
    stores-moved no_stmts = refl
    stores-moved (more_stmts s ss) = joined moved_store (stmt_stores s) (stores_in ss) _ _ (stmt-stores s) (stores-moved ss)

  mutual
    stmt-tests : (s : StmtTree) → stmt_tests (moved_stmt m s) ≡ map (moved_cond m) (stmt_tests s)
    stmt-tests (assign line f e) = refl
    stmt-tests (assign_at line f index e) = refl
    stmt-tests (branch line test on_true on_false) =
        ap (λ ts. moved_cond m test ∷ ts) (joined (moved_cond m) (tests_in on_true) (tests_in on_false) _ _ (tests-moved on_true)
        (tests-moved on_false))
    stmt-tests (call line k target es) = refl

    pub tests-moved : (ss : StmtTrees) → tests_in (moved_stmts m ss) ≡ map (moved_cond m) (tests_in ss)
    tests-moved no_stmts = refl
    tests-moved (more_stmts s ss) = joined (moved_cond m) (stmt_tests s) (tests_in ss) _ _ (stmt-tests s) (tests-moved ss)

  mutual
    stmt-calls : (s : StmtTree) → stmt_calls (moved_stmt m s) ≡ map moved_call (stmt_calls s)
    stmt-calls (assign line f e) = refl
    stmt-calls (assign_at line f index e) = refl
    stmt-calls (branch line test on_true on_false) = joined moved_call (calls_in on_true) (calls_in on_false) _ _ (calls-moved on_true)
        (calls-moved on_false)
    stmt-calls (call line k target es) = ap (λ vs. record { procedure = moved_number m k; target = target; values = vs } ∷ [])
        (values-moved es)

    pub calls-moved : (ss : StmtTrees) → calls_in (moved_stmts m ss) ≡ map moved_call (calls_in ss)
    calls-moved no_stmts = refl
    calls-moved (more_stmts s ss) = joined moved_call (stmt_calls s) (calls_in ss) _ _ (stmt-calls s) (calls-moved ss)

  mutual
    stmt-indices : (s : StmtTree) → stmt_indices (moved_stmt m s) ≡ map moved_index (stmt_indices s)
    stmt-indices (assign line f e) = expr-indices e
    stmt-indices (assign_at line f index e) =
        ap (λ is. record { field = f; index = moved_expr m index } ∷ is)
        (joined moved_index (expr_indices index) (expr_indices e) _ _ (expr-indices index) (expr-indices e))
    stmt-indices (branch line test on_true on_false) =
        joined moved_index (cond_indices test ++ indices_in on_true) (indices_in on_false) _ _
        (joined moved_index (cond_indices test) (indices_in on_true) _ _ (cond-indices test) (indices-moved on_true))
        (indices-moved on_false)
    stmt-indices (call line k target es) = exprs-indices es

    pub indices-moved : (ss : StmtTrees) → indices_in (moved_stmts m ss) ≡ map moved_index (indices_in ss)
    indices-moved no_stmts = refl
    indices-moved (more_stmts s ss) = joined moved_index (stmt_indices s) (indices_in ss) _ _ (stmt-indices s) (indices-moved ss)

  -- ---- Procedures

  pub all-stores : (qs : List ProcedureTree) → flat_map (λ (q : ProcedureTree). stores_in q.body) (map (moved_procedure m) qs)
      ≡ map moved_store (flat_map (λ (q : ProcedureTree). stores_in q.body) qs)
  all-stores [] = refl
  all-stores (q ∷ qs) = joined moved_store (stores_in q.body) (flat_map (λ (z : ProcedureTree). stores_in z.body) qs) _ _
      (stores-moved q.body) (all-stores qs)

  pub all-calls : (qs : List ProcedureTree) → flat_map (λ (q : ProcedureTree). calls_in q.body) (map (moved_procedure m) qs)
      ≡ map moved_call (flat_map (λ (q : ProcedureTree). calls_in q.body) qs)
  all-calls [] = refl
  all-calls (q ∷ qs) = joined moved_call (calls_in q.body) (flat_map (λ (z : ProcedureTree). calls_in z.body) qs) _ _ (calls-moved q.body)
      (all-calls qs)
