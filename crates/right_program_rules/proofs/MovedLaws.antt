-- Code that is lawful at one place is lawful at another, where what it names is there too; and it is as deep there.
use Rattle.std.specs.Prelude.{◌≡◌, ℕ, ◌+◌, ◌<◌, max, ◌++◌, length, slice_get, Some}
use Rattle.std.specs.List.{AllByRecursion}
use Rattle.std.proofs.Common.{refl, ap, ap₂, ◌∙◌}
use Rattle.c_syntax.specs.declared.Leaf.{Leaf}
use Rattle.c_syntax.specs.declared.Leaf.TheVariants.{Param, Own, Child}
use Rattle.c_syntax.specs.declared.Target.{Target}
use Rattle.c_syntax.specs.Tree.{ExprTree, literal, neg, read, binary, pick, pure, item, ExprTrees, no_exprs, more_exprs, CondTree, compare, both, either, negated, StmtTree, assign, assign_at, branch, call, StmtTrees, no_stmts, more_stmts, PureTree, ProcedureTree}
use Rattle.c_syntax.specs.Lawful.{Reach, IsNumberAt, IsArrayAt, IsLawfulLeaf, exprs_length, IsLawfulExpr, AreLawfulExprs, IsLawfulCond, IsLawfulTarget, IsLawfulStmt, AreLawfulStmts}
use Rattle.c_syntax.specs.Limits.{expr_depth, exprs_depth, cond_depth, stmt_depth, stmts_depth, stmt_exprs_depth, stmts_exprs_depth}
use Rattle.emit_shape.specs.Reads.{CallSite, expr_leaves, exprs_leaves, cond_leaves, stmt_leaves, stmts_leaves, stmt_calls, calls_in}
use Rattle.emit_shape.specs.Relocation.{Relocation, moved_number, moved_leaf, moved_expr, moved_exprs, moved_cond, moved_stmt, moved_stmts}
use Rattle.right_program_rules.proofs.Lists.{all-front, all-back}

-- a call on a target with so many values is lawful
abbrev pub IsLawfulCall : Reach → Target → ℕ → ℕ → Type 0
IsLawfulCall reach target k values = (p : ProcedureTree) × (slice_get reach.procedures k ≡ Some p) × IsLawfulTarget reach target p.of ×
    (length p.params ≡ values)

-- what is there in the one place is in the other: of leaves and calls, where they are such
pub record Carries (m n : Relocation) (one two : Reach) (IsRead : Leaf → Type 0) (IsCalled : CallSite → Type 0) : Type 0 where
  pub pures : (k : ℕ) (p : PureTree) → slice_get one.pures k ≡ Some p → slice_get two.pures k ≡ Some p
  pub params : (k : ℕ) → k < one.params → k < two.params
  pub numbers : (f : ℕ) → IsNumberAt one.fields f → IsNumberAt two.fields f
  pub arrays : (f : ℕ) → IsArrayAt one.fields f → IsArrayAt two.fields f
  pub outputs : (f o : ℕ) → IsRead (Child f o) → IsLawfulLeaf one (Child f (m.output f o)) → IsLawfulLeaf two (Child f (n.output f o))
  pub calls : (c : CallSite) (values : ℕ) → IsCalled c → IsLawfulCall one c.target (moved_number m c.procedure) values →
      IsLawfulCall two c.target (moved_number n c.procedure) values

module _ (m n : Relocation) where
  same-length : (es : ExprTrees) → exprs_length (moved_exprs m es) ≡ exprs_length (moved_exprs n es)
  same-length no_exprs = refl
  same-length (more_exprs e es) = ap (λ k. k + 1) (same-length es)

  module _ (one two : Reach) (IsRead : Leaf → Type 0) (IsCalled : CallSite → Type 0) (carries : Carries m n one two IsRead IsCalled) where
    leaf-lawful : (l : Leaf) → IsRead l → IsLawfulLeaf one (moved_leaf m l) → IsLawfulLeaf two (moved_leaf n l)
    leaf-lawful (Param k) reads lawful = carries.params k lawful
    leaf-lawful (Own f) reads lawful = carries.numbers f lawful
    leaf-lawful (Child f o) reads lawful = carries.outputs f o reads lawful

    mutual
      expr-lawful : (e : ExprTree) → AllByRecursion IsRead (expr_leaves e) → IsLawfulExpr one (moved_expr m e) →
          IsLawfulExpr two (moved_expr n e)
      expr-lawful (literal v) reads lawful = lawful
      expr-lawful (neg e) reads lawful = expr-lawful e reads lawful
      expr-lawful (read l) reads lawful = leaf-lawful l reads.0 lawful
      expr-lawful (binary op a b) reads lawful = (
        expr-lawful a (all-front IsRead (expr_leaves a) (expr_leaves b) reads) lawful.0,
        expr-lawful b
            (all-back IsRead (expr_leaves a) (expr_leaves b) reads) lawful.1,
      )
      expr-lawful (pick test a b) reads lawful =
          let front = all-front IsRead (cond_leaves test ++ expr_leaves a) (expr_leaves b) reads in (
            cond-lawful test (all-front IsRead (cond_leaves test) (expr_leaves a) front) lawful.0,
            expr-lawful a (all-back IsRead (cond_leaves test) (expr_leaves a) front) lawful.1,
            expr-lawful b (all-back IsRead (cond_leaves test ++ expr_leaves a) (expr_leaves b) reads) lawful.2,
          )
      expr-lawful (pure k es) reads lawful =
          (lawful.0, carries.pures k lawful.0 lawful.1, lawful.2 ∙ same-length es, exprs-lawful es reads lawful.3)
      expr-lawful (item f index) reads lawful = (carries.arrays f lawful.0, expr-lawful index reads.1 lawful.1)

      exprs-lawful : (es : ExprTrees) → AllByRecursion IsRead (exprs_leaves es) → AreLawfulExprs one (moved_exprs m es) →
          AreLawfulExprs two (moved_exprs n es)
      exprs-lawful no_exprs reads lawful = tt
      exprs-lawful (more_exprs e es) reads lawful = (
        expr-lawful e (all-front IsRead (expr_leaves e) (exprs_leaves es) reads) lawful.0,
        exprs-lawful es
            (all-back IsRead (expr_leaves e) (exprs_leaves es) reads) lawful.1,
      )

      cond-lawful : (c : CondTree) → AllByRecursion IsRead (cond_leaves c) → IsLawfulCond one (moved_cond m c) →
          IsLawfulCond two (moved_cond n c)
      cond-lawful (compare how a b) reads lawful = (
        expr-lawful a (all-front IsRead (expr_leaves a) (expr_leaves b) reads) lawful.0,
        expr-lawful b
            (all-back IsRead (expr_leaves a) (expr_leaves b) reads) lawful.1,
      )
      cond-lawful (both a b) reads lawful = (
        cond-lawful a (all-front IsRead (cond_leaves a) (cond_leaves b) reads) lawful.0,
        cond-lawful b
            (all-back IsRead (cond_leaves a) (cond_leaves b) reads) lawful.1,
      )
      cond-lawful (either a b) reads lawful = (
        cond-lawful a (all-front IsRead (cond_leaves a) (cond_leaves b) reads) lawful.0,
        cond-lawful b
            (all-back IsRead (cond_leaves a) (cond_leaves b) reads) lawful.1,
      )
      cond-lawful (negated a) reads lawful = cond-lawful a reads lawful

    mutual
      stmt-lawful : (s : StmtTree) → AllByRecursion IsRead (stmt_leaves s) → AllByRecursion IsCalled (stmt_calls s) →
          IsLawfulStmt one (moved_stmt m s) → IsLawfulStmt two (moved_stmt n s)
      stmt-lawful (assign line f e) reads called lawful = (carries.numbers f lawful.0, expr-lawful e reads lawful.1)
      stmt-lawful (assign_at line f index e) reads called lawful = (
        carries.arrays f lawful.0,
        expr-lawful index (all-front IsRead (expr_leaves index) (expr_leaves e) reads) lawful.1,
        expr-lawful e (all-back IsRead (expr_leaves index) (expr_leaves e) reads) lawful.2,
      )
      stmt-lawful (branch line test on_true on_false) reads called lawful =
          let front = all-front IsRead (cond_leaves test ++ stmts_leaves on_true) (stmts_leaves on_false) reads in (
            cond-lawful test (all-front IsRead (cond_leaves test) (stmts_leaves on_true) front) lawful.0,
            stmts-lawful on_true (all-back IsRead (cond_leaves test) (stmts_leaves on_true) front)
                (all-front IsCalled (calls_in on_true) (calls_in on_false) called) lawful.1,
            stmts-lawful on_false (all-back IsRead (cond_leaves test ++ stmts_leaves on_true) (stmts_leaves on_false) reads)
                (all-back IsCalled (calls_in on_true) (calls_in on_false) called) lawful.2,
          )
      stmt-lawful (call line k target es) reads called lawful =
          let made = carries.calls _ (exprs_length (moved_exprs m es)) called.0 (lawful.0, lawful.1, lawful.2, lawful.3) in
          (made.0, made.1, made.2, made.3 ∙ same-length es, exprs-lawful es reads lawful.4)

      pub stmts-lawful : (ss : StmtTrees) → AllByRecursion IsRead (stmts_leaves ss) → AllByRecursion IsCalled (calls_in ss) →
          AreLawfulStmts one (moved_stmts m ss) → AreLawfulStmts two (moved_stmts n ss)
      stmts-lawful no_stmts reads called lawful = tt
      stmts-lawful (more_stmts s ss) reads called lawful = (
        stmt-lawful s (all-front IsRead (stmt_leaves s) (stmts_leaves ss) reads)
            (all-front IsCalled (stmt_calls s) (calls_in ss) called) lawful.0,
        stmts-lawful ss (all-back IsRead (stmt_leaves s) (stmts_leaves ss) reads)
            (all-back IsCalled (stmt_calls s) (calls_in ss) called) lawful.1,
      )

-- ---- Depths

module _ (m : Relocation) where
  mutual
    same-expr_depth : (e : ExprTree) → expr_depth (moved_expr m e) ≡ expr_depth e
    same-expr_depth (neg e) = ap (λ k. k + 1) (same-expr_depth e)
    same-expr_depth (binary op a b) = ap₂ (λ k l. max k l + 1) (same-expr_depth a) (same-expr_depth b)
    same-expr_depth (pick test a b) = ap₂ (λ k l. max k l + 1) (same-cond_depth test) (ap₂ max (same-expr_depth a) (same-expr_depth b))
    same-expr_depth (pure k es) = ap (λ k. k + 1) (same-exprs_depth es)
    same-expr_depth (item f index) = ap (λ k. k + 1) (same-expr_depth index)
    same-expr_depth _ = refl

    same-exprs_depth : (es : ExprTrees) → exprs_depth (moved_exprs m es) ≡ exprs_depth es
    same-exprs_depth no_exprs = refl
    same-exprs_depth (more_exprs e es) = ap₂ max (same-expr_depth e) (same-exprs_depth es)

    same-cond_depth : (c : CondTree) → cond_depth (moved_cond m c) ≡ cond_depth c
    same-cond_depth (compare how a b) = ap₂ (λ k l. max k l + 1) (same-expr_depth a) (same-expr_depth b)
    same-cond_depth (both a b) = ap₂ (λ k l. max k l + 1) (same-cond_depth a) (same-cond_depth b)
    same-cond_depth (either a b) = ap₂ (λ k l. max k l + 1) (same-cond_depth a) (same-cond_depth b)
    same-cond_depth (negated a) = ap (λ k. k + 1) (same-cond_depth a)

  mutual
    same-stmt_depth : (s : StmtTree) → stmt_depth (moved_stmt m s) ≡ stmt_depth s
    same-stmt_depth (assign line f e) = refl
    same-stmt_depth (assign_at line f index e) = refl
    same-stmt_depth (branch line test on_true on_false) = ap₂ (λ k l. max k l + 1) (same-stmts_depth on_true) (same-stmts_depth on_false)
    same-stmt_depth (call line k target es) = refl

    pub same-stmts_depth : (ss : StmtTrees) → stmts_depth (moved_stmts m ss) ≡ stmts_depth ss
    same-stmts_depth no_stmts = refl
    same-stmts_depth (more_stmts s ss) = ap₂ max (same-stmt_depth s) (same-stmts_depth ss)

  mutual
    same-stmt_exprs_depth : (s : StmtTree) → stmt_exprs_depth (moved_stmt m s) ≡ stmt_exprs_depth s
    same-stmt_exprs_depth (assign line f e) = same-expr_depth e
    same-stmt_exprs_depth (assign_at line f index e) = ap₂ max (same-expr_depth index) (same-expr_depth e)
    same-stmt_exprs_depth (branch line test on_true on_false) =
        ap₂ max (same-cond_depth test) (ap₂ max (same-stmts_exprs_depth on_true) (same-stmts_exprs_depth on_false))
    same-stmt_exprs_depth (call line k target es) = same-exprs_depth es

    pub same-stmts_exprs_depth : (ss : StmtTrees) → stmts_exprs_depth (moved_stmts m ss) ≡ stmts_exprs_depth ss
    same-stmts_exprs_depth no_stmts = refl
    same-stmts_exprs_depth (more_stmts s ss) = ap₂ max (same-stmt_exprs_depth s) (same-stmts_exprs_depth ss)
