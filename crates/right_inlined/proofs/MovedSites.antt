-- What code stores, tests, calls and indexes with other parameters and by other positions of procedures.
use Rattle.std.specs.Prelude.{◌≡◌, ℕ, map}
use Rattle.std.proofs.Common.{refl}
use Rattle.c_syntax.specs.Tree.{ExprTree, ExprTrees, CondTree, StmtTrees, list_of_exprs, list_of_stmts}
use Rattle.emit_shape.specs.Reads.{expr_leaves, cond_leaves, StoreSite, IndexSite, CallSite, stores_in, tests_in, calls_in, indices_in}
use Rattle.emit_inlined.specs.Inlined.{moved_leaf, moved_expr, moved_exprs, moved_cond, moved_stmt, moved_stmts}
use Rattle.right_pruned.proofs.lemmas.RenamedSites as sites

module _ (param place : ℕ → ℕ) where
  -- ---- What is read

  pub expr-leaves : (e : ExprTree) → expr_leaves (moved_expr param place e) ≡ map (moved_leaf param place) (expr_leaves e)
  expr-leaves = sites.expr-leaves (moved_leaf param place) (λ k. k) place (λ f. refl)

  pub cond-leaves : (c : CondTree) → cond_leaves (moved_cond param place c) ≡ map (moved_leaf param place) (cond_leaves c)
  cond-leaves = sites.cond-leaves (moved_leaf param place) (λ k. k) place (λ f. refl)

  -- ---- Sites

  abbrev pub moved_store : StoreSite → StoreSite
  moved_store = sites.renamed_store (moved_leaf param place) (λ k. k) place

  abbrev pub moved_index : IndexSite → IndexSite
  moved_index = sites.renamed_index (moved_leaf param place) (λ k. k) place

  abbrev pub moved_call : CallSite → CallSite
  moved_call = sites.renamed_call (moved_leaf param place) (λ k. k) place

  pub exprs-list : (es : ExprTrees) → list_of_exprs (moved_exprs param place es) ≡ map (moved_expr param place) (list_of_exprs es)
  exprs-list = sites.exprs-list (moved_leaf param place) (λ k. k) place

  pub stmts-list : (xs : StmtTrees) → list_of_stmts (moved_stmts param place xs) ≡ map (moved_stmt param place) (list_of_stmts xs)
  stmts-list = sites.stmts-list (moved_leaf param place) (λ k. k) place

  pub stores-moved : (xs : StmtTrees) → stores_in (moved_stmts param place xs) ≡ map moved_store (stores_in xs)
  stores-moved = sites.stores-renamed (moved_leaf param place) (λ k. k) place

  pub tests-moved : (xs : StmtTrees) → tests_in (moved_stmts param place xs) ≡ map (moved_cond param place) (tests_in xs)
  tests-moved = sites.tests-renamed (moved_leaf param place) (λ k. k) place

  pub calls-moved : (xs : StmtTrees) → calls_in (moved_stmts param place xs) ≡ map moved_call (calls_in xs)
  calls-moved = sites.calls-renamed (moved_leaf param place) (λ k. k) place

  pub indices-moved : (xs : StmtTrees) → indices_in (moved_stmts param place xs) ≡ map moved_index (indices_in xs)
  indices-moved = sites.indices-renamed (moved_leaf param place) (λ k. k) place
