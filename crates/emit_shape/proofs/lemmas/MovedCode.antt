-- Code that is moved does the same where what it names does.
use Rattle.std.proofs.Common.{◌≡◌, refl, sym, ap, subst, ℕ, List, [], ◌∷◌, ◌++◌, map, arith}
use Rattle.std.specs.Prelude.{Contains}
use Rattle.std.proofs.lemmas.List.{map-append}
use Rattle.std.proofs.lemmas.List.Elements.{Contains-append_left, Contains-append_right}
use Rattle.c_syntax.specs.declared.Leaf.{Leaf}
use Rattle.c_syntax.specs.declared.Leaf.TheVariants.{Param, Own, Child}
use Rattle.c_syntax.specs.Tree.{ExprTree, literal, neg, read, binary, pick, pure, item, ExprTrees, no_exprs, more_exprs, CondTree, compare, both, either, negated, StmtTree, assign, assign_at, branch, call, StmtTrees, no_stmts, more_stmts}
use Rattle.c_semantics.specs.NumberingLaws.{IsRenumbered, AreRenumbered, ProcedureNumbersAreFree}
use Rattle.c_semantics.specs.Machine.{routine_at}
use Rattle.emit_shape.specs.Reads.{CallSite, expr_leaves, exprs_leaves, cond_leaves, stmt_leaves, stmts_leaves, stmt_calls, calls_in}
use Rattle.emit_shape.specs.Relocation.{Relocation, moved_number, moved_leaf, moved_expr, moved_exprs, moved_cond, moved_stmt, moved_stmts}
use Rattle.emit_shape.specs.RelocationLaws.{MovedCodeAgrees}

module _ (m n : Relocation) where
  -- ---- Expressions

  -- these leaves go to the same outputs in both places
  abbrev Outputs : List Leaf → Type 0
  Outputs leaves = (f o : ℕ) → Contains leaves (Child f o) → m.output f o ≡ n.output f o

  before : (xs ys : List Leaf) → Outputs (xs ++ ys) → Outputs xs
  before xs ys same f o has = same f o (Contains-append_left xs ys (Child f o) has)

  behind : (xs ys : List Leaf) → Outputs (xs ++ ys) → Outputs ys
  behind xs ys same f o has = same f o (Contains-append_right xs ys (Child f o) has)

  leaf_agrees : (l : Leaf) → Outputs (l ∷ []) → moved_leaf m l ≡ moved_leaf n l
  leaf_agrees (Param k) same = refl
  leaf_agrees (Own f) same = refl
  leaf_agrees (Child f o) same = ap (Child f) (same f o (0, omega arith, refl))

  mutual
    expr_agrees : (e : ExprTree) → Outputs (expr_leaves e) → moved_expr m e ≡ moved_expr n e
    expr_agrees (literal v) same = refl
    expr_agrees (neg e) same = ap neg (expr_agrees e same)
    expr_agrees (read l) same = ap read (leaf_agrees l same)
    expr_agrees (binary op a b) same =
        λ i. binary op (expr_agrees a (before (expr_leaves a) (expr_leaves b) same) i)
        (expr_agrees b (behind (expr_leaves a) (expr_leaves b) same) i)
    expr_agrees (pick test a b) same =
        let front = before (cond_leaves test ++ expr_leaves a) (expr_leaves b) same in
        λ i. pick (cond_agrees test (before (cond_leaves test) (expr_leaves a) front) i)
        (expr_agrees a (behind (cond_leaves test) (expr_leaves a) front) i)
        (expr_agrees b (behind (cond_leaves test ++ expr_leaves a) (expr_leaves b) same) i)
    expr_agrees (pure k es) same = ap (pure k) (exprs_agree es same)
    expr_agrees (item f index) same = ap (item f) (expr_agrees index (behind (Own f ∷ []) (expr_leaves index) same))

    exprs_agree : (es : ExprTrees) → Outputs (exprs_leaves es) → moved_exprs m es ≡ moved_exprs n es
    exprs_agree no_exprs same = refl
    exprs_agree (more_exprs e es) same =
        λ i. more_exprs (expr_agrees e (before (expr_leaves e) (exprs_leaves es) same) i)
        (exprs_agree es (behind (expr_leaves e) (exprs_leaves es) same) i)

    cond_agrees : (c : CondTree) → Outputs (cond_leaves c) → moved_cond m c ≡ moved_cond n c
    cond_agrees (compare how a b) same =
        λ i. compare how (expr_agrees a (before (expr_leaves a) (expr_leaves b) same) i)
        (expr_agrees b (behind (expr_leaves a) (expr_leaves b) same) i)
    cond_agrees (both a b) same =
        λ i. both (cond_agrees a (before (cond_leaves a) (cond_leaves b) same) i)
        (cond_agrees b (behind (cond_leaves a) (cond_leaves b) same) i)
    cond_agrees (either a b) same =
        λ i. either (cond_agrees a (before (cond_leaves a) (cond_leaves b) same) i)
        (cond_agrees b (behind (cond_leaves a) (cond_leaves b) same) i)
    cond_agrees (negated a) same = ap negated (cond_agrees a same)

  -- ---- Statements

  module _ (R : ℕ → ℕ → Type 0) where
    -- these calls go to procedures that are related
    abbrev Related : List CallSite → Type 0
    Related calls = (k : ℕ) → Contains (map (λ (c : CallSite). c.procedure) calls) k → R (moved_number m k) (moved_number n k)

    calls_before : (xs ys : List CallSite) → Related (xs ++ ys) → Related xs
    calls_before xs ys all k has = all k (subst (λ ks. Contains ks k) (sym (map-append (λ (c : CallSite). c.procedure) xs ys))
        (Contains-append_left (map (λ (c : CallSite). c.procedure) xs) (map (λ (c : CallSite). c.procedure) ys) k has))

    calls_behind : (xs ys : List CallSite) → Related (xs ++ ys) → Related ys
    calls_behind xs ys all k has = all k (subst (λ ks. Contains ks k) (sym (map-append (λ (c : CallSite). c.procedure) xs ys))
        (Contains-append_right (map (λ (c : CallSite). c.procedure) xs) (map (λ (c : CallSite). c.procedure) ys) k has))

    mutual
      stmt_renumbered : (s : StmtTree) → Outputs (stmt_leaves s) → Related (stmt_calls s) → IsRenumbered R (moved_stmt m s) (moved_stmt n s)
      stmt_renumbered (assign line f e) same related = ap (assign line f) (expr_agrees e same)
      stmt_renumbered (assign_at line f index e) same related =
          λ i. assign_at line f (expr_agrees index (before (expr_leaves index) (expr_leaves e) same) i)
          (expr_agrees e (behind (expr_leaves index) (expr_leaves e) same) i)
      stmt_renumbered (branch line test on_true on_false) same related =
          let front = before (cond_leaves test ++ stmts_leaves on_true) (stmts_leaves on_false) same in (
            moved_stmts n on_true,
            moved_stmts n on_false,
            ap (λ c. branch line c (moved_stmts n on_true) (moved_stmts n on_false))
                (cond_agrees test (before (cond_leaves test) (stmts_leaves on_true) front)),
            stmts_renumbered on_true (behind (cond_leaves test) (stmts_leaves on_true) front)
                (calls_before (calls_in on_true) (calls_in on_false) related),
            stmts_renumbered on_false (behind (cond_leaves test ++ stmts_leaves on_true) (stmts_leaves on_false) same)
                (calls_behind (calls_in on_true) (calls_in on_false) related),
          )
      stmt_renumbered (call line k target es) same related =
          (moved_number n k, ap (call line (moved_number n k) target) (exprs_agree es same), related k (0, omega arith, refl))

      stmts_renumbered : (ss : StmtTrees) → Outputs (stmts_leaves ss) → Related (calls_in ss) →
          AreRenumbered R (moved_stmts m ss) (moved_stmts n ss)
      stmts_renumbered no_stmts same related = refl
      stmts_renumbered (more_stmts s ss) same related = (
        moved_stmt n s,
        moved_stmts n ss,
        refl,
        stmt_renumbered s (before (stmt_leaves s) (stmts_leaves ss) same) (calls_before (stmt_calls s) (calls_in ss) related),
        stmts_renumbered ss (behind (stmt_leaves s) (stmts_leaves ss) same) (calls_behind (stmt_calls s) (calls_in ss) related),
      )

pub moved_code_agrees : ProcedureNumbersAreFree → MovedCodeAgrees
moved_code_agrees free stmts m n scope routines cells steps alike =
    free scope routines (moved_stmts m stmts) (moved_stmts n stmts) cells steps
    (stmts_renumbered m n (λ k j. routine_at scope.routines k ≡ routine_at routines j) stmts alike.outputs alike.procedures)
