-- What bodies store, call, index and test when they are fused.
use Rattle.std.specs.Prelude.{◌≡◌, ℕ, ◌+◌, Bool, List, [], ◌∷◌, ◌++◌, map, count_by}
use Rattle.std.specs.List.{AllByRecursion}
use Rattle.std.proofs.Common.{refl, sym, ap, subst, ◌∙◌, arith}
use Rattle.emit_pruned.proofs.lemmas.Numbers.{all-left, all-right, all-both}
use Rattle.c_syntax.specs.declared.code.Target.{Target}
use Rattle.c_syntax.specs.Tree.{ExprTree, ExprTrees, CondTree, StmtTree, assign, assign_at, branch, call, StmtTrees, no_stmts, more_stmts, list_of_exprs}
use Rattle.emit_shape.specs.Reads.{cond_leaves, StoreSite, IndexSite, CallSite, expr_indices, cond_indices, stmt_stores, stores_in, stmt_tests, tests_in, stmt_calls, calls_in, stmt_indices, indices_in}
use Rattle.emit_fused.specs.Simplified.{simplified_expr, simplified_exprs}
use Rattle.emit_fused.specs.Fused.{fused_stmts}
use Rattle.emit_fused.proofs.lemmas.Parts.{IsByParts, fused_stmts-keep}
use Rattle.emit_fused.proofs.lemmas.Measures.{IsSum, fused_stmts-weigh}
use Rattle.right_fused.proofs.lemmas.Lists.{count-append}
use Rattle.right_fused.proofs.TestsBack.{all-back}
use Rattle.right_fused.proofs.FusedReads.{simplified_index, indices-left, all-indices-left, exprs-list}

-- ---- What statements have by their parts

-- all are at one level
abbrev level : ℕ → ℕ
level i = i

-- of each statement, of each test, and of statements
module _ {X : Type 0} (one : StmtTree → List X) (at : CondTree → List X) (all : StmtTrees → List X) (nothing : all no_stmts ≡ [])
    (next : (s : StmtTree) (ss : StmtTrees) → all (more_stmts s ss) ≡ one s ++ all ss)
    (choice : (line : ℕ) (test : CondTree) (a b : StmtTrees) → one (branch line test a b) ≡ at test ++ all a ++ all b) (P : X → Type 0) where
  abbrev pub Test : CondTree → Type 0
  Test test = AllByRecursion P (at test)

  abbrev pub One : ℕ → StmtTree → Type 0
  One i s = AllByRecursion P (one s)

  abbrev pub All : ℕ → StmtTrees → Type 0
  All i ss = AllByRecursion P (all ss)

  split : (line : ℕ) (test : CondTree) (a b : StmtTrees) → AllByRecursion P (one (branch line test a b)) →
      AllByRecursion P (at test) × AllByRecursion P (all a) × AllByRecursion P (all b)
  split line test a b h =
      let parts = subst (AllByRecursion P) (choice line test a b) h in
      let front = all-left P (at test ++ all a) (all b) parts in
      (all-left P (at test) (all a) front, all-right P (at test) (all a) front, all-right P (at test ++ all a) (all b) parts)

  pub each-part : IsByParts level Test One All
  each-part = record {
    none = λ i. subst (AllByRecursion P) (sym nothing) tt;
    more = λ i s ss h g. subst (AllByRecursion P) (sym (next s ss)) (all-both P (one s) (all ss) h g);
    first = λ i s ss h. all-left P (one s) (all ss) (subst (AllByRecursion P) (next s ss) h);
    rest = λ i s ss h. all-right P (one s) (all ss) (subst (AllByRecursion P) (next s ss) h);
    test = λ i line test a b h. (split line test a b h).0;
    on_true = λ i line test a b h. (split line test a b h).1;
    on_false = λ i line test a b h. (split line test a b h).2;
    rebuilt = λ i line later t u a b c d h test f g.
        subst (AllByRecursion P) (sym (choice later u c d)) (all-both P (at u ++ all c) (all d) (all-both P (at u) (all c) test f) g);
    raised = λ i xs h. h;
  }

  -- so it is with fused statements, where it is with each by itself
  pub each-fused : ((line f : ℕ) (e : ExprTree) → AllByRecursion P (one (assign line f e)) →
      AllByRecursion P (one (assign line f (simplified_expr e)))) →
      ((line f : ℕ) (index e : ExprTree) → AllByRecursion P (one (assign_at line f index e)) →
      AllByRecursion P (one (assign_at line f (simplified_expr index) (simplified_expr e)))) →
      ((line k : ℕ) (target : Target) (es : ExprTrees) → AllByRecursion P (one (call line k target es)) →
      AllByRecursion P (one (call line k target (simplified_exprs es)))) → (ss : StmtTrees) → AllByRecursion P (all ss) →
      AllByRecursion P (all (fused_stmts ss))
  each-fused stored stored_at called ss h =
      fused_stmts-keep level Test One All each-part One All (record {
        first = each-part.first;
        rest = each-part.rest;
        on_true = each-part.on_true;
        on_false = each-part.on_false;
        branches = λ i line test a b c d g x y. each-part.rebuilt i line line test test a b c d g (split line test a b g).0 x y;
        stores = λ i line f e g. stored line f e g;
        items = λ i line f index e g. stored_at line f index e g;
        calls = λ i line k target es g. called line k target es g;
      }) ss 0 h

sums : IsSum ◌+◌
sums = record { alone = λ n. omega arith; regrouped = λ a b c. omega arith; either_way = λ a b. omega arith }

-- as many pass in fused statements, where as many do in each by itself
module _ {X : Type 0} (one : StmtTree → List X) (all : StmtTrees → List X) (passes : X → Bool) where
  pub count-fused : all no_stmts ≡ [] → ((s : StmtTree) (ss : StmtTrees) → all (more_stmts s ss) ≡ one s ++ all ss) →
      ((line : ℕ) (test : CondTree) (a b : StmtTrees) → one (branch line test a b) ≡ all a ++ all b) →
      ((line f : ℕ) (e : ExprTree) → count_by passes (one (assign line f (simplified_expr e))) ≡ count_by passes (one (assign line f e))) →
      ((line f : ℕ) (index e : ExprTree) →
      count_by passes (one (assign_at line f (simplified_expr index) (simplified_expr e)))
      ≡ count_by passes (one (assign_at line f index e))) →
      ((line k : ℕ) (target : Target) (es : ExprTrees) →
      count_by passes (one (call line k target (simplified_exprs es))) ≡ count_by passes (one (call line k target es))) →
      (ss : StmtTrees) → count_by passes (all (fused_stmts ss)) ≡ count_by passes (all ss)
  count-fused nothing next choice stored stored_at called ss =
      fused_stmts-weigh ◌+◌ sums (λ s. count_by passes (one s)) (λ xs. count_by passes (all xs)) (record {
        none = ap (count_by passes) nothing;
        more = λ s xs. ap (count_by passes) (next s xs) ∙ count-append passes (one s) (all xs);
        branches = λ line test a b. ap (count_by passes) (choice line test a b) ∙ count-append passes (all a) (all b);
        stores = stored;
        items = stored_at;
        calls = called;
      }) ss

-- ---- Stores

module _ (P : StoreSite → Type 0) (next : (f : ℕ) (e : ExprTree) → P (record { field = f; value = e }) →
    P (record { field = f; value = simplified_expr e })) where
  pub stores-fused : (ss : StmtTrees) → AllByRecursion P (stores_in ss) → AllByRecursion P (stores_in (fused_stmts ss))
  stores-fused =
      each-fused stmt_stores (λ test. []) stores_in refl (λ s ss. refl) (λ line test a b. refl) P (λ line f e one. (next f e one.0, tt))
      (λ line f index e one. (next f e one.0, tt)) (λ line k target es one. one)

pub store-count : (passes : ℕ → Bool) (ss : StmtTrees) →
    count_by (λ (st : StoreSite). passes st.field) (stores_in (fused_stmts ss)) ≡ count_by (λ (st : StoreSite). passes st.field) (stores_in ss)
store-count passes =
    count-fused stmt_stores stores_in (λ (st : StoreSite). passes st.field) refl (λ s xs. refl) (λ line c a b. refl) (λ line f e. refl)
    (λ line f index e. refl) (λ line k target es. refl)

-- ---- Calls

module _ (P : CallSite → Type 0) (next : (c : CallSite) → P c →
    P (record { procedure = c.procedure; target = c.target; values = map simplified_expr c.values })) where
  pub calls-fused : (ss : StmtTrees) → AllByRecursion P (calls_in ss) → AllByRecursion P (calls_in (fused_stmts ss))
  calls-fused =
      each-fused stmt_calls (λ test. []) calls_in refl (λ s ss. refl) (λ line test a b. refl) P (λ line f e one. one)
      (λ line f index e one. one)
      (λ line k target es one. (
        subst (λ values. P (record { procedure = k; target = target; values = values })) (sym (exprs-list es))
            (next (record { procedure = k; target = target; values = list_of_exprs es }) one.0),
        tt,
      ))

pub call-count : (passes : ℕ → Target → Bool) (ss : StmtTrees) →
    count_by (λ (c : CallSite). passes c.procedure c.target) (calls_in (fused_stmts ss))
    ≡ count_by (λ (c : CallSite). passes c.procedure c.target) (calls_in ss)
call-count passes =
    count-fused stmt_calls calls_in (λ (c : CallSite). passes c.procedure c.target) refl (λ s xs. refl) (λ line c a b. refl)
    (λ line f e. refl) (λ line f index e. refl) (λ line k target es. refl)

-- ---- Indices

module _ (P : IndexSite → Type 0) (next : (i : IndexSite) → P i → P (simplified_index i)) where
  item-left : (f : ℕ) (index e : ExprTree) →
      AllByRecursion P (record { field = f; index = index } ∷ expr_indices index ++ expr_indices e) →
      AllByRecursion P (record { field = f; index = simplified_expr index } ∷ expr_indices (simplified_expr index) ++ expr_indices (simplified_expr e))
  item-left f index e h = (
    next (record { field = f; index = index }) h.0,
    all-both P (expr_indices (simplified_expr index)) (expr_indices (simplified_expr e))
        (indices-left P P next index (all-left P (expr_indices index) (expr_indices e) h.1))
        (indices-left P P next e (all-right P (expr_indices index) (expr_indices e) h.1)),
  )

  pub indices-fused : (ss : StmtTrees) → AllByRecursion P (indices_in ss) → AllByRecursion P (indices_in (fused_stmts ss))
  indices-fused =
      each-fused stmt_indices cond_indices indices_in refl (λ s ss. refl) (λ line test a b. refl) P
      (λ line f e one. indices-left P P next e one) (λ line f index e one. item-left f index e one)
      (λ line k target es one. all-indices-left P P next es one)

-- ---- Tests

module _ (P : CondTree → Type 0) where
  pub tests-fused : (ss : StmtTrees) → AllByRecursion P (tests_in ss) → AllByRecursion P (tests_in (fused_stmts ss))
  tests-fused =
      each-fused stmt_tests (λ test. test ∷ []) tests_in refl (λ s ss. refl) (λ line test a b. refl) P (λ line f e one. one)
      (λ line f index e one. one) (λ line k target es one. one)

  -- what holds of the tests that are left, by what they read, held of all
  pub tests-back : ((a b : CondTree) → cond_leaves a ≡ cond_leaves b → P a → P b) → (ss : StmtTrees) →
      AllByRecursion P (tests_in (fused_stmts ss)) → AllByRecursion P (tests_in ss)
  tests-back alike ss h =
      let are = each-part stmt_tests (λ test. test ∷ []) tests_in refl (λ s xs. refl) (λ line test a b. refl) P in
      all-back (λ s. AllByRecursion P (stmt_tests s)) (λ xs. AllByRecursion P (tests_in xs)) (λ test. AllByRecursion P (test ∷ []))
      (record {
        none = are.none 0;
        more = are.more 0;
        first = are.first 0;
        rest = are.rest 0;
        choice = λ line test a b h f g. all-both P (test ∷ tests_in a) (tests_in b) (h.0, f) g;
        test = are.test 0;
        on_true = are.on_true 0;
        on_false = are.on_false 0;
      }) (λ a b same one. (alike a b same one.0, tt)) (λ line f e. tt) (λ line f index e. tt) (λ line k target es. tt) ss h
