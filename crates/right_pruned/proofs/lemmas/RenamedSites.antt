-- What code reads, stores, tests, calls and indexes over other leaves, pure functions and procedures.
use Rattle.std.specs.Prelude.{◌≡◌, ℕ, List, [], ◌∷◌, ◌++◌, map}
use Rattle.std.proofs.Common.{refl, sym, ap, ap₂, ◌∙◌}
use Rattle.std.proofs.lemmas.List.{map-append}
use Rattle.c_syntax.specs.declared.Leaf.{Leaf}
use Rattle.c_syntax.specs.declared.Leaf.TheVariants.{Own}
use Rattle.c_syntax.specs.Tree.{ExprTree, literal, neg, read, binary, pick, pure, item, ExprTrees, no_exprs, more_exprs, CondTree, compare, both, either, negated, StmtTree, assign, assign_at, branch, call, StmtTrees, no_stmts, more_stmts, list_of_exprs, list_of_stmts}
use Rattle.c_renaming.specs.Renamed.{renamed_expr, renamed_exprs, renamed_cond, renamed_stmt, renamed_stmts}
use Rattle.emit_shape.specs.Reads.{expr_leaves, exprs_leaves, cond_leaves, StoreSite, IndexSite, CallSite, expr_indices, exprs_indices, cond_indices, stmt_stores, stores_in, stmt_tests, tests_in, stmt_calls, calls_in, stmt_indices, indices_in}

pub two : {A B : Type 0} (f : A → B) (xs ys : List A) (vs ws : List B) → vs ≡ map f xs → ws ≡ map f ys → vs ++ ws ≡ map f (xs ++ ys)
two f xs ys vs ws one other = ap₂ ◌++◌ one other ∙ sym (map-append f xs ys)

module _ (leaf : Leaf → Leaf) (function place : ℕ → ℕ) where
  -- ---- What is read

  -- an array is where it was
  module _ (array : (f : ℕ) → leaf (Own f) ≡ Own f) where
    mutual
      pub expr-leaves : (e : ExprTree) → expr_leaves (renamed_expr leaf function place e) ≡ map leaf (expr_leaves e)
      expr-leaves (literal value) = refl
      expr-leaves (neg e) = expr-leaves e
      expr-leaves (read l) = refl
      expr-leaves (binary op a b) = two leaf (expr_leaves a) (expr_leaves b) _ _ (expr-leaves a) (expr-leaves b)
      expr-leaves (pick test a b) =
          two leaf (cond_leaves test ++ expr_leaves a) (expr_leaves b) _ _
          (two leaf (cond_leaves test) (expr_leaves a) _ _ (cond-leaves test) (expr-leaves a)) (expr-leaves b)
      expr-leaves (pure k es) = exprs-leaves es
      expr-leaves (item f index) = λ i. sym (array f) i ∷ expr-leaves index i

      exprs-leaves : (es : ExprTrees) → exprs_leaves (renamed_exprs leaf function place es) ≡ map leaf (exprs_leaves es)
      exprs-leaves no_exprs = refl
      exprs-leaves (more_exprs e es) = two leaf (expr_leaves e) (exprs_leaves es) _ _ (expr-leaves e) (exprs-leaves es)

      pub cond-leaves : (c : CondTree) → cond_leaves (renamed_cond leaf function place c) ≡ map leaf (cond_leaves c)
      cond-leaves (compare how a b) = two leaf (expr_leaves a) (expr_leaves b) _ _ (expr-leaves a) (expr-leaves b)
      cond-leaves (both a b) = two leaf (cond_leaves a) (cond_leaves b) _ _ (cond-leaves a) (cond-leaves b)
      cond-leaves (either a b) = two leaf (cond_leaves a) (cond_leaves b) _ _ (cond-leaves a) (cond-leaves b)
      cond-leaves (negated a) = cond-leaves a

  -- ---- Sites

  abbrev pub renamed_store : StoreSite → StoreSite
  renamed_store st = record { field = st.field; value = renamed_expr leaf function place st.value }

  abbrev pub renamed_index : IndexSite → IndexSite
  renamed_index i = record { field = i.field; index = renamed_expr leaf function place i.index }

  abbrev pub renamed_call : CallSite → CallSite
  renamed_call c = record { procedure = place c.procedure; target = c.target; values = map (renamed_expr leaf function place) c.values }

  pub exprs-list : (es : ExprTrees) → list_of_exprs (renamed_exprs leaf function place es) ≡ map (renamed_expr leaf function place) (list_of_exprs es)
  exprs-list no_exprs = refl
  exprs-list (more_exprs e es) = ap (λ rest. renamed_expr leaf function place e ∷ rest) (exprs-list es)

  pub stmts-list : (xs : StmtTrees) → list_of_stmts (renamed_stmts leaf function place xs) ≡ map (renamed_stmt leaf function place) (list_of_stmts xs)
  stmts-list no_stmts = refl
  stmts-list (more_stmts x xs) = ap (λ rest. renamed_stmt leaf function place x ∷ rest) (stmts-list xs)

  mutual
    stmt-stores : (x : StmtTree) → stmt_stores (renamed_stmt leaf function place x) ≡ map renamed_store (stmt_stores x)
    stmt-stores (assign line f value) = refl
    stmt-stores (assign_at line f index value) = refl
    stmt-stores (branch line test on_true on_false) =
        two renamed_store (stores_in on_true) (stores_in on_false) _ _ (stores-renamed on_true) (stores-renamed on_false)
    stmt-stores (call line k target es) = refl

    pub stores-renamed : (xs : StmtTrees) → stores_in (renamed_stmts leaf function place xs) ≡ map renamed_store (stores_in xs)
    stores-renamed no_stmts = refl
    stores-renamed (more_stmts x xs) = two renamed_store (stmt_stores x) (stores_in xs) _ _ (stmt-stores x) (stores-renamed xs)

  mutual
    stmt-tests : (x : StmtTree) → stmt_tests (renamed_stmt leaf function place x) ≡ map (renamed_cond leaf function place) (stmt_tests x)
    stmt-tests (assign line f value) = refl
    stmt-tests (assign_at line f index value) = refl
    stmt-tests (branch line test on_true on_false) =
        ap (λ rest. renamed_cond leaf function place test ∷ rest)
        (two (renamed_cond leaf function place) (tests_in on_true) (tests_in on_false) _ _ (tests-renamed on_true) (tests-renamed on_false))
    stmt-tests (call line k target es) = refl

    pub tests-renamed : (xs : StmtTrees) → tests_in (renamed_stmts leaf function place xs) ≡ map (renamed_cond leaf function place) (tests_in xs)
    tests-renamed no_stmts = refl
    tests-renamed (more_stmts x xs) = two (renamed_cond leaf function place) (stmt_tests x) (tests_in xs) _ _ (stmt-tests x) (tests-renamed xs)

  mutual
    stmt-calls : (x : StmtTree) → stmt_calls (renamed_stmt leaf function place x) ≡ map renamed_call (stmt_calls x)
    stmt-calls (assign line f value) = refl
    stmt-calls (assign_at line f index value) = refl
    stmt-calls (branch line test on_true on_false) =
        two renamed_call (calls_in on_true) (calls_in on_false) _ _ (calls-renamed on_true) (calls-renamed on_false)
    stmt-calls (call line k target es) = λ i. record { procedure = place k; target = target; values = exprs-list es i } ∷ []

    pub calls-renamed : (xs : StmtTrees) → calls_in (renamed_stmts leaf function place xs) ≡ map renamed_call (calls_in xs)
    calls-renamed no_stmts = refl
    calls-renamed (more_stmts x xs) = two renamed_call (stmt_calls x) (calls_in xs) _ _ (stmt-calls x) (calls-renamed xs)

  mutual
    expr-indices : (e : ExprTree) → expr_indices (renamed_expr leaf function place e) ≡ map renamed_index (expr_indices e)
    expr-indices (literal value) = refl
    expr-indices (neg e) = expr-indices e
    expr-indices (read l) = refl
    expr-indices (binary op a b) = two renamed_index (expr_indices a) (expr_indices b) _ _ (expr-indices a) (expr-indices b)
    expr-indices (pick test a b) =
        two renamed_index (cond_indices test ++ expr_indices a) (expr_indices b) _ _
        (two renamed_index (cond_indices test) (expr_indices a) _ _ (cond-indices test) (expr-indices a)) (expr-indices b)
    expr-indices (pure k es) = exprs-indices es
    expr-indices (item f index) = λ i. record { field = f; index = renamed_expr leaf function place index } ∷ expr-indices index i

    exprs-indices : (es : ExprTrees) → exprs_indices (renamed_exprs leaf function place es) ≡ map renamed_index (exprs_indices es)
    exprs-indices no_exprs = refl
    exprs-indices (more_exprs e es) = two renamed_index (expr_indices e) (exprs_indices es) _ _ (expr-indices e) (exprs-indices es)

    cond-indices : (c : CondTree) → cond_indices (renamed_cond leaf function place c) ≡ map renamed_index (cond_indices c)
    cond-indices (compare how a b) = two renamed_index (expr_indices a) (expr_indices b) _ _ (expr-indices a) (expr-indices b)
    cond-indices (both a b) = two renamed_index (cond_indices a) (cond_indices b) _ _ (cond-indices a) (cond-indices b)
    cond-indices (either a b) = two renamed_index (cond_indices a) (cond_indices b) _ _ (cond-indices a) (cond-indices b)
    cond-indices (negated a) = cond-indices a

  mutual
    stmt-indices : (x : StmtTree) → stmt_indices (renamed_stmt leaf function place x) ≡ map renamed_index (stmt_indices x)
    stmt-indices (assign line f value) = expr-indices value
    stmt-indices (assign_at line f index value) =
        ap (λ rest. record { field = f; index = renamed_expr leaf function place index } ∷ rest)
        (two renamed_index (expr_indices index) (expr_indices value) _ _ (expr-indices index) (expr-indices value))
    stmt-indices (branch line test on_true on_false) =
        two renamed_index (cond_indices test ++ indices_in on_true) (indices_in on_false) _ _
        (two renamed_index (cond_indices test) (indices_in on_true) _ _ (cond-indices test) (indices-renamed on_true))
        (indices-renamed on_false)
    stmt-indices (call line k target es) = exprs-indices es

    pub indices-renamed : (xs : StmtTrees) → indices_in (renamed_stmts leaf function place xs) ≡ map renamed_index (indices_in xs)
    indices-renamed no_stmts = refl
    indices-renamed (more_stmts x xs) = two renamed_index (stmt_indices x) (indices_in xs) _ _ (stmt-indices x) (indices-renamed xs)
