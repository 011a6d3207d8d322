-- What code calls and reads that is lawful where it is moved to: earlier procedures, and outputs of children that are there.
use Rattle.std.specs.Prelude.{◌≡◌, ℕ, zero, suc, ◌+◌, ◌<◌, List, [], ◌∷◌, ◌++◌, length, slice_get, Some, ⊤}
use Rattle.std.specs.List.{AllByRecursion}
use Rattle.std.proofs.Common.{subst, arith}
use Rattle.std.proofs.lemmas.List.{length-append}
use Rattle.c_syntax.specs.declared.Leaf.{Leaf}
use Rattle.c_syntax.specs.declared.Leaf.TheVariants.{Param, Own, Child}
use Rattle.c_syntax.specs.Tree.{ExprTree, literal, neg, read, binary, pick, pure, item, ExprTrees, no_exprs, more_exprs, CondTree, compare, both, either, negated, StmtTree, assign, assign_at, branch, call, StmtTrees, no_stmts, more_stmts, StructTree, PureTree, ProcedureTree}
use Rattle.c_syntax.specs.Lawful.{Reach, IsStructAt, IsLawfulLeaf, IsLawfulExpr, AreLawfulExprs, IsLawfulCond, IsLawfulStmt, AreLawfulStmts, IsLawfulProcedure, AreProcedures}
use Rattle.emit_shape.specs.Reads.{expr_leaves, exprs_leaves, cond_leaves, CallSite, stmt_calls, calls_in, stmt_leaves, stmts_leaves}
use Rattle.emit_shape.specs.Relocation.{Relocation, moved_number, moved_leaf, moved_expr, moved_exprs, moved_cond, moved_stmt, moved_stmts}
use Rattle.modules_profile.proofs.lemmas.Members.{at-below}

pub all-append : {A : Type 0} (P : A → Type 0) (xs ys : List A) → AllByRecursion P xs → AllByRecursion P ys → AllByRecursion P (xs ++ ys)
all-append P [] ys one two = two
all-append P (x ∷ xs) ys one two = (one.0, all-append P xs ys one.1 two)

module _ (m : Relocation) (reach : Reach) where
  -- ---- Calls

  -- an earlier procedure is called
  abbrev pub CallsEarlier : CallSite → Type 0
  CallsEarlier c = moved_number m c.procedure < length reach.procedures

  mutual
    stmt-earlier : (s : StmtTree) → IsLawfulStmt reach (moved_stmt m s) → AllByRecursion CallsEarlier (stmt_calls s)
    stmt-earlier (assign line f e) lawful = tt
    stmt-earlier (assign_at line f index e) lawful = tt
    stmt-earlier (branch line test on_true on_false) lawful =
        all-append CallsEarlier (calls_in on_true) (calls_in on_false) (calls-earlier on_true lawful.1) (calls-earlier on_false lawful.2)
    stmt-earlier (call line k target values) lawful = (at-below reach.procedures (moved_number m k) lawful.0 lawful.1, tt)

    pub calls-earlier : (ss : StmtTrees) → AreLawfulStmts reach (moved_stmts m ss) → AllByRecursion CallsEarlier (calls_in ss)
    calls-earlier no_stmts lawful = tt
    calls-earlier (more_stmts s ss) lawful =
        all-append CallsEarlier (stmt_calls s) (calls_in ss) (stmt-earlier s lawful.0) (calls-earlier ss lawful.1)

  -- ---- Leaves

  -- the field of a child's output is a struct
  abbrev pub ReadsChild : Leaf → Type 0
  ReadsChild (Param k) = ⊤
  ReadsChild (Own f) = ⊤
  ReadsChild (Child f o) = (k : ℕ) × IsStructAt reach.fields f k

  leaf-child : (l : Leaf) → IsLawfulLeaf reach (moved_leaf m l) → ReadsChild l
  leaf-child (Param k) lawful = tt
  leaf-child (Own f) lawful = tt
  leaf-child (Child f o) lawful = (lawful.0, lawful.1)

  mutual
    expr-children : (e : ExprTree) → IsLawfulExpr reach (moved_expr m e) → AllByRecursion ReadsChild (expr_leaves e)
    expr-children (literal value) lawful = tt
    expr-children (neg e) lawful = expr-children e lawful
    expr-children (read l) lawful = (leaf-child l lawful, tt)
    expr-children (binary op a b) lawful =
        all-append ReadsChild (expr_leaves a) (expr_leaves b) (expr-children a lawful.0) (expr-children b lawful.1)
    expr-children (pick test a b) lawful =
        all-append ReadsChild (cond_leaves test ++ expr_leaves a) (expr_leaves b)
        (all-append ReadsChild (cond_leaves test) (expr_leaves a) (cond-children test lawful.0) (expr-children a lawful.1))
        (expr-children b lawful.2)
    expr-children (pure k es) lawful = exprs-children es lawful.3
    expr-children (item f index) lawful = (tt, expr-children index lawful.1)

    exprs-children : (es : ExprTrees) → AreLawfulExprs reach (moved_exprs m es) → AllByRecursion ReadsChild (exprs_leaves es)
    exprs-children no_exprs lawful = tt
    exprs-children (more_exprs e es) lawful =
        all-append ReadsChild (expr_leaves e) (exprs_leaves es) (expr-children e lawful.0) (exprs-children es lawful.1)

    cond-children : (c : CondTree) → IsLawfulCond reach (moved_cond m c) → AllByRecursion ReadsChild (cond_leaves c)
    cond-children (compare how a b) lawful =
        all-append ReadsChild (expr_leaves a) (expr_leaves b) (expr-children a lawful.0) (expr-children b lawful.1)
    cond-children (both a b) lawful =
        all-append ReadsChild (cond_leaves a) (cond_leaves b) (cond-children a lawful.0) (cond-children b lawful.1)
    cond-children (either a b) lawful =
        all-append ReadsChild (cond_leaves a) (cond_leaves b) (cond-children a lawful.0) (cond-children b lawful.1)
    cond-children (negated a) lawful = cond-children a lawful

  mutual
    stmt-children : (s : StmtTree) → IsLawfulStmt reach (moved_stmt m s) → AllByRecursion ReadsChild (stmt_leaves s)
    stmt-children (assign line f e) lawful = expr-children e lawful.1
    stmt-children (assign_at line f index e) lawful =
        all-append ReadsChild (expr_leaves index) (expr_leaves e) (expr-children index lawful.1) (expr-children e lawful.2)
    stmt-children (branch line test on_true on_false) lawful =
        all-append ReadsChild (cond_leaves test ++ stmts_leaves on_true) (stmts_leaves on_false)
        (all-append ReadsChild (cond_leaves test) (stmts_leaves on_true) (cond-children test lawful.0) (stmts-children on_true lawful.1))
        (stmts-children on_false lawful.2)
    stmt-children (call line k target values) lawful = exprs-children values lawful.4

    pub stmts-children : (ss : StmtTrees) → AreLawfulStmts reach (moved_stmts m ss) → AllByRecursion ReadsChild (stmts_leaves ss)
    stmts-children no_stmts lawful = tt
    stmts-children (more_stmts s ss) lawful =
        all-append ReadsChild (stmt_leaves s) (stmts_leaves ss) (stmt-children s lawful.0) (stmts-children ss lawful.1)

-- ---- Procedures at their places

-- the one at a place is lawful after those before it
pub lawful-at : (pures : List PureTree) (structs : List StructTree) (earlier qs : List ProcedureTree) (i : ℕ) (q : ProcedureTree) →
    AreProcedures pures structs earlier qs → slice_get qs i ≡ Some q →
    (before : List ProcedureTree) × (length before ≡ length earlier + i) × IsLawfulProcedure pures structs before q
lawful-at pures structs earlier [] i q lawful at = absurd (let wrong : ⊥ = cc at in wrong)
lawful-at pures structs earlier (p ∷ ps) zero q lawful at =
    let same : p ≡ q = cc at in (earlier, omega arith, subst (IsLawfulProcedure pures structs earlier) same lawful.0)
lawful-at pures structs earlier (p ∷ ps) (suc i) q lawful at =
    let (before, long, is) = lawful-at pures structs (earlier ++ p ∷ []) ps i q lawful.1 at in
    (before, omega (arith, long, length-append earlier (p ∷ [])), is)
