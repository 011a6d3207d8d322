-- Lawful code is lawful with other parameters and by other positions of procedures, where those that it calls are there.
use Rattle.std.specs.Prelude.{◌≡◌, ℕ, ◌<◌, true, List, Some, slice_get}
use Rattle.std.specs.List.{AllByRecursion}
use Rattle.std.proofs.Common.{sym, ◌∙◌}
use Rattle.c_syntax.specs.declared.code.Leaf.{Leaf}
use Rattle.c_syntax.specs.declared.code.Leaf.TheVariants.{Param, Own, Child}
use Rattle.c_syntax.specs.declared.code.Target.{Target}
use Rattle.c_syntax.specs.declared.code.Target.TheVariants.{Own as OwnTarget, Child as ChildTarget}
use Rattle.c_syntax.specs.Tree.{ExprTree, literal, neg, read, binary, pick, pure, item, ExprTrees, no_exprs, more_exprs, CondTree, compare, both, either, negated, StmtTree, assign, assign_at, branch, call, StmtTrees, no_stmts, more_stmts, ProcedureTree, ProgramTree}
use Rattle.c_syntax.specs.Lawful.{Reach, IsLawfulLeaf, IsLawfulExpr, AreLawfulExprs, IsLawfulCond, IsLawfulTarget, IsLawfulStmt, AreLawfulStmts}
use Rattle.c_renaming.proofs.lemmas.Depths.{same-count}
use Rattle.emit_pruned.proofs.lemmas.Numbers.{all-left, all-right}
use Rattle.emit_inlined.specs.Inlined.{stmt_calls, stmts_calls, stays, moved_leaf, moved_expr, moved_exprs, moved_cond, moved_stmt, moved_stmts, inlined_procedure}

module _ (param place : ℕ → ℕ) where
  module _ (reach : Reach) (kept : List ProcedureTree) (params : ℕ)
      (inside : (k : ℕ) → k < reach.params → param k < params) where
    -- the same with these procedures, and so many parameters
    abbrev pub after : Reach
    after = record {
      pures = reach.pures;
      structs = reach.structs;
      procedures = kept;
      fields = reach.fields;
      params = params;
      of = reach.of;
    }

    leaf-lawful : (leaf : Leaf) → IsLawfulLeaf reach leaf → IsLawfulLeaf after (moved_leaf param place leaf)
    leaf-lawful (Param k) h = inside k h
    leaf-lawful (Own f) h = h
    leaf-lawful (Child f g) h = h

    target-lawful : (target : Target) (of : ℕ) → IsLawfulTarget reach target of → IsLawfulTarget after target of
    target-lawful OwnTarget of h = h
    target-lawful (ChildTarget f) of h = h

    mutual
      expr-lawful : (e : ExprTree) → IsLawfulExpr reach e → IsLawfulExpr after (moved_expr param place e)
      expr-lawful (literal value) h = h
      expr-lawful (neg e) h = expr-lawful e h
      expr-lawful (read leaf) h = leaf-lawful leaf h
      expr-lawful (binary op a b) h = (expr-lawful a h.0, expr-lawful b h.1)
      expr-lawful (pick test a b) h = (cond-lawful test h.0, expr-lawful a h.1, expr-lawful b h.2)
      expr-lawful (pure k es) (f, there, count, all) = (f, there, count ∙ sym (same-count (moved_leaf param place) (λ k. k) place es), exprs-lawful es all)
      expr-lawful (item f index) h = (h.0, expr-lawful index h.1)

      exprs-lawful : (es : ExprTrees) → AreLawfulExprs reach es → AreLawfulExprs after (moved_exprs param place es)
      exprs-lawful no_exprs h = tt
      exprs-lawful (more_exprs e es) h = (expr-lawful e h.0, exprs-lawful es h.1)

      cond-lawful : (c : CondTree) → IsLawfulCond reach c → IsLawfulCond after (moved_cond param place c)
      cond-lawful (compare how a b) h = (expr-lawful a h.0, expr-lawful b h.1)
      cond-lawful (both a b) h = (cond-lawful a h.0, cond-lawful b h.1)
      cond-lawful (either a b) h = (cond-lawful a h.0, cond-lawful b h.1)
      cond-lawful (negated a) h = cond-lawful a h

    module _ (p : ProgramTree)
        (stands : (k : ℕ) (q : ProcedureTree) → slice_get reach.procedures k ≡ Some q → stays p k ≡ true →
        slice_get kept (place k) ≡ Some (inlined_procedure p q)) where
      abbrev Stays : ℕ → Type 0
      Stays k = stays p k ≡ true

      mutual
        pub stmt-lawful : (x : StmtTree) → AllByRecursion Stays (stmt_calls x) → IsLawfulStmt reach x →
            IsLawfulStmt after (moved_stmt param place x)
        stmt-lawful (assign line f e) called h = (h.0, expr-lawful e h.1)
        stmt-lawful (assign_at line f index e) called h = (h.0, expr-lawful index h.1, expr-lawful e h.2)
        stmt-lawful (branch line test on_true on_false) called h = (
          cond-lawful test h.0,
          stmts-lawful on_true (all-left Stays (stmts_calls on_true) (stmts_calls on_false) called) h.1,
          stmts-lawful on_false (all-right Stays (stmts_calls on_true) (stmts_calls on_false) called) h.2,
        )
        stmt-lawful (call line k target es) called (q, there, of, count, all) = (
          inlined_procedure p q,
          stands k q there called.0,
          target-lawful target q.of of,
          count ∙ sym (same-count (moved_leaf param place) (λ k. k) place es),
          exprs-lawful es all,
        )

        pub stmts-lawful : (xs : StmtTrees) → AllByRecursion Stays (stmts_calls xs) → AreLawfulStmts reach xs →
            AreLawfulStmts after (moved_stmts param place xs)
        stmts-lawful no_stmts called h = tt
        stmts-lawful (more_stmts x xs) called h = (
          stmt-lawful x (all-left Stays (stmt_calls x) (stmts_calls xs) called) h.0,
          stmts-lawful xs (all-right Stays (stmt_calls x) (stmts_calls xs) called) h.1,
        )
