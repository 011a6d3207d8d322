-- What code stores, tests, calls and indexes with its calls of pure functions renumbered.
use Rattle.std.specs.Prelude.{◌≡◌, ℕ, ◌+◌, Bool, cond, List, [], ◌∷◌, map, flat_map, fold, count_by}
use Rattle.std.proofs.Common.{refl, ◌∙◌}
use Rattle.std.proofs.lemmas.List.{map-id}
use Rattle.c_syntax.specs.Tree.{ExprTree, ExprTrees, CondTree, StmtTrees, list_of_exprs, list_of_stmts, ProcedureTree}
use Rattle.emit_shape.specs.Reads.{expr_leaves, cond_leaves, StoreSite, IndexSite, CallSite, stores_in, tests_in, calls_in, indices_in}
use Rattle.emit_pruned.specs.Pruned.{renumbered_expr, renumbered_exprs, renumbered_cond, renumbered_stmt, renumbered_stmts, renumbered_procedure}
use Rattle.right_pruned.proofs.lemmas.RenamedSites as sites

fold-map : {A B : Type 0} (f : A → B) (g : ℕ → B → ℕ) (n : ℕ) (xs : List A) → fold g n (map f xs) ≡ fold (λ m x. g m (f x)) n xs
fold-map f g n [] = refl
fold-map f g n (x ∷ xs) = fold-map f g (g n (f x)) xs

pub count-map : {A B : Type 0} (f : A → B) (test : B → Bool) (xs : List A) → count_by test (map f xs) ≡ count_by (λ x. test (f x)) xs
count-map f test xs = fold-map f (λ m y. m + cond (test y) 1 0) 0 xs

module _ (place : ℕ → ℕ) where
  -- ---- What is read

  pub expr-leaves : (e : ExprTree) → expr_leaves (renumbered_expr place e) ≡ expr_leaves e
  expr-leaves e = sites.expr-leaves (λ leaf. leaf) place (λ k. k) (λ f. refl) e ∙ map-id (expr_leaves e)

  pub cond-leaves : (c : CondTree) → cond_leaves (renumbered_cond place c) ≡ cond_leaves c
  cond-leaves c = sites.cond-leaves (λ leaf. leaf) place (λ k. k) (λ f. refl) c ∙ map-id (cond_leaves c)

  -- ---- Sites

  abbrev pub moved_store : StoreSite → StoreSite
  moved_store = sites.renamed_store (λ leaf. leaf) place (λ k. k)

  abbrev pub moved_index : IndexSite → IndexSite
  moved_index = sites.renamed_index (λ leaf. leaf) place (λ k. k)

  abbrev pub moved_call : CallSite → CallSite
  moved_call = sites.renamed_call (λ leaf. leaf) place (λ k. k)

  pub exprs-list : (es : ExprTrees) → list_of_exprs (renumbered_exprs place es) ≡ map (renumbered_expr place) (list_of_exprs es)
  exprs-list = sites.exprs-list (λ leaf. leaf) place (λ k. k)

  pub stmts-list : (xs : StmtTrees) → list_of_stmts (renumbered_stmts place xs) ≡ map (renumbered_stmt place) (list_of_stmts xs)
  stmts-list = sites.stmts-list (λ leaf. leaf) place (λ k. k)

  pub stores-moved : (xs : StmtTrees) → stores_in (renumbered_stmts place xs) ≡ map moved_store (stores_in xs)
  stores-moved = sites.stores-renamed (λ leaf. leaf) place (λ k. k)

  pub tests-moved : (xs : StmtTrees) → tests_in (renumbered_stmts place xs) ≡ map (renumbered_cond place) (tests_in xs)
  tests-moved = sites.tests-renamed (λ leaf. leaf) place (λ k. k)

  pub calls-moved : (xs : StmtTrees) → calls_in (renumbered_stmts place xs) ≡ map moved_call (calls_in xs)
  calls-moved = sites.calls-renamed (λ leaf. leaf) place (λ k. k)

  pub indices-moved : (xs : StmtTrees) → indices_in (renumbered_stmts place xs) ≡ map moved_index (indices_in xs)
  indices-moved = sites.indices-renamed (λ leaf. leaf) place (λ k. k)

  -- what each of some procedures has
  pub flat-moved : {A : Type 0} (f : ProcedureTree → List A) (g : A → A) →
      ((x : ProcedureTree) → f (renumbered_procedure place x) ≡ map g (f x)) → (xs : List ProcedureTree) →
      flat_map f (map (renumbered_procedure place) xs) ≡ map g (flat_map f xs)
  flat-moved f g each [] = refl
  flat-moved f g each (x ∷ xs) = sites.two g (f x) (flat_map f xs) _ _ (each x) (flat-moved f g each xs)
