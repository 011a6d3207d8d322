-- Lawful code is lawful by other positions of pure functions, where the functions that it calls are there.
use Rattle.std.specs.Prelude.{◌≡◌, ℕ, max, List, ◌++◌, map, length, Some, slice_get, option_map}
use Rattle.std.specs.List.{AllByRecursion}
use Rattle.std.proofs.Common.{refl, sym, ap, ◌∙◌}
use Rattle.std.proofs.lemmas.Option.{slice_get-map}
use Rattle.c_syntax.specs.declared.code.Leaf.{Leaf}
use Rattle.c_syntax.specs.declared.code.Leaf.TheVariants.{Param, Own, Child}
use Rattle.c_syntax.specs.declared.code.Target.{Target}
use Rattle.c_syntax.specs.declared.code.Target.TheVariants.{Own as OwnTarget, Child as ChildTarget}
use Rattle.c_syntax.specs.Tree.{ExprTree, literal, neg, read, binary, pick, pure, item, ExprTrees, no_exprs, more_exprs, CondTree, compare, both, either, negated, StmtTree, assign, assign_at, branch, call, StmtTrees, no_stmts, more_stmts, PureTree, ProcedureTree}
use Rattle.c_syntax.specs.Chains.{stmt_chain, stmts_chain}
use Rattle.c_syntax.specs.Lawful.{Reach, IsLawfulLeaf, IsLawfulExpr, AreLawfulExprs, IsLawfulCond, IsLawfulTarget, IsLawfulStmt, AreLawfulStmts}
use Rattle.c_renaming.proofs.lemmas.Depths.{same-count}
use Rattle.emit_pruned.specs.Calls.{expr_functions, exprs_functions, cond_functions, stmt_functions, stmts_functions}
use Rattle.emit_pruned.specs.Pruned.{renumbered_expr, renumbered_exprs, renumbered_cond, renumbered_stmt, renumbered_stmts, renumbered_procedure}
use Rattle.emit_pruned.proofs.lemmas.Numbers.{all-left, all-right}

module _ (place : ℕ → ℕ) where
  -- ---- What stays

  module _ (chains : List ℕ) where
    mutual
      pub stmt-chain : (x : StmtTree) → stmt_chain chains (renumbered_stmt place x) ≡ stmt_chain chains x
      stmt-chain (assign line f e) = refl
      stmt-chain (assign_at line f index e) = refl
      stmt-chain (branch line test on_true on_false) = λ i. max (stmts-chain on_true i) (stmts-chain on_false i)
      stmt-chain (call line k target es) = refl

      pub stmts-chain : (xs : StmtTrees) → stmts_chain chains (renumbered_stmts place xs) ≡ stmts_chain chains xs
      stmts-chain no_stmts = refl
      stmts-chain (more_stmts x xs) = λ i. max (stmt-chain x i) (stmts-chain xs i)

  -- ---- What is lawful

  -- the function at a position is among the kept ones at its place, with as many parameters
  abbrev pub Stands : (pures kept : List PureTree) → ℕ → Type 0
  Stands pures kept k =
      (f : PureTree) → slice_get pures k ≡ Some f →
      (g : PureTree) × (slice_get kept (place k) ≡ Some g) × (length g.params ≡ length f.params)

  -- a reach with these functions and procedures
  abbrev pub with_functions : Reach → List PureTree → List ProcedureTree → Reach
  with_functions reach pures earlier =
      record { pures = pures; structs = reach.structs; procedures = earlier; fields = reach.fields; params = reach.params; of = reach.of }

  module _ (reach : Reach) (kept : List PureTree) where
    abbrev after : Reach
    after = with_functions reach kept (map (renumbered_procedure place) reach.procedures)

    abbrev Called : ℕ → Type 0
    Called = Stands reach.pures kept

    leaf-lawful : (leaf : Leaf) → IsLawfulLeaf reach leaf → IsLawfulLeaf after leaf
    leaf-lawful (Param k) h = h
    leaf-lawful (Own f) h = h
    leaf-lawful (Child f g) h = h

    target-lawful : (target : Target) (of : ℕ) → IsLawfulTarget reach target of → IsLawfulTarget after target of
    target-lawful OwnTarget of h = h
    target-lawful (ChildTarget f) of h = h

    mutual
      pub expr-lawful : (e : ExprTree) → AllByRecursion Called (expr_functions e) → IsLawfulExpr reach e →
          IsLawfulExpr after (renumbered_expr place e)
      expr-lawful (literal value) called h = h
      expr-lawful (neg e) called h = expr-lawful e called h
      expr-lawful (read leaf) called h = leaf-lawful leaf h
      expr-lawful (binary op a b) called h = (
        expr-lawful a (all-left Called (expr_functions a) (expr_functions b) called) h.0,
        expr-lawful b (all-right Called (expr_functions a) (expr_functions b) called) h.1,
      )
      expr-lawful (pick test a b) called h =
          let before = all-left Called (cond_functions test ++ expr_functions a) (expr_functions b) called in (
            cond-lawful test (all-left Called (cond_functions test) (expr_functions a) before) h.0,
            expr-lawful a (all-right Called (cond_functions test) (expr_functions a) before) h.1,
            expr-lawful b (all-right Called (cond_functions test ++ expr_functions a) (expr_functions b) called) h.2,
          )
      expr-lawful (pure k es) called (f, there, count, all) =
          let (g, stands, same) = called.0 f there in
          (g, stands, same ∙ count ∙ sym (same-count (λ leaf. leaf) place (λ k. k) es), exprs-lawful es called.1 all)
      expr-lawful (item f index) called h = (h.0, expr-lawful index called h.1)

      pub exprs-lawful : (es : ExprTrees) → AllByRecursion Called (exprs_functions es) → AreLawfulExprs reach es →
          AreLawfulExprs after (renumbered_exprs place es)
      exprs-lawful no_exprs called h = tt
      exprs-lawful (more_exprs e es) called h = (
        expr-lawful e (all-left Called (expr_functions e) (exprs_functions es) called) h.0,
        exprs-lawful es (all-right Called (expr_functions e) (exprs_functions es) called) h.1,
      )

      pub cond-lawful : (c : CondTree) → AllByRecursion Called (cond_functions c) → IsLawfulCond reach c →
          IsLawfulCond after (renumbered_cond place c)
      cond-lawful (compare how a b) called h = (
        expr-lawful a (all-left Called (expr_functions a) (expr_functions b) called) h.0,
        expr-lawful b (all-right Called (expr_functions a) (expr_functions b) called) h.1,
      )
      cond-lawful (both a b) called h = (
        cond-lawful a (all-left Called (cond_functions a) (cond_functions b) called) h.0,
        cond-lawful b (all-right Called (cond_functions a) (cond_functions b) called) h.1,
      )
      cond-lawful (either a b) called h = (
        cond-lawful a (all-left Called (cond_functions a) (cond_functions b) called) h.0,
        cond-lawful b (all-right Called (cond_functions a) (cond_functions b) called) h.1,
      )
      cond-lawful (negated a) called h = cond-lawful a called h

    mutual
      pub stmt-lawful : (x : StmtTree) → AllByRecursion Called (stmt_functions x) → IsLawfulStmt reach x →
          IsLawfulStmt after (renumbered_stmt place x)
      stmt-lawful (assign line f e) called h = (h.0, expr-lawful e called h.1)
      stmt-lawful (assign_at line f index e) called h = (
        h.0,
        expr-lawful index (all-left Called (expr_functions index) (expr_functions e) called) h.1,
        expr-lawful e (all-right Called (expr_functions index) (expr_functions e) called) h.2,
      )
      stmt-lawful (branch line test on_true on_false) called h =
          let before = all-left Called (cond_functions test ++ stmts_functions on_true) (stmts_functions on_false) called in (
            cond-lawful test (all-left Called (cond_functions test) (stmts_functions on_true) before) h.0,
            stmts-lawful on_true (all-right Called (cond_functions test) (stmts_functions on_true) before) h.1,
            stmts-lawful on_false (all-right Called (cond_functions test ++ stmts_functions on_true) (stmts_functions on_false) called) h.2,
          )
      stmt-lawful (call line k target es) called (q, there, of, count, all) = (
        renumbered_procedure place q,
        slice_get-map (renumbered_procedure place) reach.procedures k ∙ ap (option_map (renumbered_procedure place)) there,
        target-lawful target q.of of,
        count ∙ sym (same-count (λ leaf. leaf) place (λ k. k) es),
        exprs-lawful es called all,
      )

      pub stmts-lawful : (xs : StmtTrees) → AllByRecursion Called (stmts_functions xs) → AreLawfulStmts reach xs →
          AreLawfulStmts after (renumbered_stmts place xs)
      stmts-lawful no_stmts called h = tt
      stmts-lawful (more_stmts x xs) called h = (
        stmt-lawful x (all-left Called (stmt_functions x) (stmts_functions xs) called) h.0,
        stmts-lawful xs (all-right Called (stmt_functions x) (stmts_functions xs) called) h.1,
      )
