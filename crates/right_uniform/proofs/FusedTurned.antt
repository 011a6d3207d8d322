-- Fusing minds no numbers of procedures.
use Rattle.std.specs.Prelude.{◌≡◌, ℕ, ◌&&◌, Bool, true, false, if◌then◌else◌, List}
use Rattle.std.proofs.Common.{refl, sym, ap, ◌∙◌}
use Rattle.c_syntax.specs.Tree.{CondTree, StmtTree, assign, assign_at, branch, call, StmtTrees, no_stmts, more_stmts}
use Rattle.emit_fused.specs.Same.{same_cond, is_not_of, opposite}
use Rattle.emit_fused.specs.Kept.{cond_fields, stmt_keeps, stmts_keep, keep_test}
use Rattle.emit_fused.specs.Simplified.{simplified_expr, simplified_exprs}
use Rattle.emit_fused.specs.Fused.{put_before, joined, where_fails, fused_stmt, fused_stmts}
use Rattle.c_renaming.specs.Renamed.{renamed_cond}
use Rattle.emit_uniform.specs.Turned.{turned_stmt, turned_stmts}
use Rattle.right_uniform.proofs.Renamings.{expr-same, exprs-same, cond-same}

module _ (number : ℕ → ℕ) where
  -- ---- What is kept

  module _ (fields : List ℕ) where
    mutual
      stmt-keeps : (x : StmtTree) → stmt_keeps fields (turned_stmt number x) ≡ stmt_keeps fields x
      stmt-keeps (assign line f e) = refl
      stmt-keeps (assign_at line f index e) = refl
      stmt-keeps (branch line test a b) =
          let one = stmts-keep a in
          let other = stmts-keep b in
          (λ i. one i && other i)
      stmt-keeps (call line k target es) = refl

      stmts-keep : (xs : StmtTrees) → stmts_keep fields (turned_stmts number xs) ≡ stmts_keep fields xs
      stmts-keep no_stmts = refl
      stmts-keep (more_stmts x xs) =
          let one = stmt-keeps x in
          let rest = stmts-keep xs in
          (λ i. one i && rest i)

  -- ---- Neighbours

  choice : (b : Bool) (xs ys us vs : StmtTrees) → turned_stmts number xs ≡ us → turned_stmts number ys ≡ vs →
      turned_stmts number (if b then xs else ys) ≡ (if b then us else vs)
  choice true xs ys us vs one other = one
  choice false xs ys us vs one other = other

  neighbours : (line later : ℕ) (test other : CondTree) (a b c d rest : StmtTrees) →
      ((ys : StmtTrees) → turned_stmts number (joined a ys) ≡ joined (turned_stmts number a) (turned_stmts number ys)) →
      ((ys : StmtTrees) → turned_stmts number (joined b ys) ≡ joined (turned_stmts number b) (turned_stmts number ys)) →
      turned_stmts number (put_before (branch line test a b) (more_stmts (branch later other c d) rest))
      ≡ put_before (branch line test (turned_stmts number a) (turned_stmts number b))
      (more_stmts (branch later other (turned_stmts number c) (turned_stmts number d)) (turned_stmts number rest))
  neighbours line later test other a b c d rest with_a with_b =
      choice (keep_test test a b && same_cond test other) straight crossed_or straight_there (crossed_there (keep_test test a b))
      (λ i. more_stmts (branch line (cond-same number test i) (with_a c i) (with_b d i)) rest_there)
      (choice (keep_test test a b && is_not_of other test) crossed turned_or
      (more_stmts (branch line test (joined a_there d_there) (joined b_there c_there)) rest_there) (turned_there (keep_test test a b))
      (λ i. more_stmts (branch line (cond-same number test i) (with_a d i) (with_b c i)) rest_there)
      (choice (keep_test test a b && is_not_of test other) turned apart
      (more_stmts (branch line other (joined b_there c_there) (joined a_there d_there)) rest_there) apart_there
      (λ i. more_stmts (branch line (cond-same number other i) (with_b c i) (with_a d i)) rest_there)
      (λ i. more_stmts (branch line (cond-same number test i) a_there b_there)
      (more_stmts (branch later (cond-same number other i) c_there d_there) rest_there))))
      ∙ (λ i. if kept i && same_cond test other then straight_there else crossed_there (kept i))
    where
      a_there : StmtTrees
      a_there = turned_stmts number a

      b_there : StmtTrees
      b_there = turned_stmts number b

      c_there : StmtTrees
      c_there = turned_stmts number c

      d_there : StmtTrees
      d_there = turned_stmts number d

      rest_there : StmtTrees
      rest_there = turned_stmts number rest

      kept : keep_test test a b ≡ keep_test test a_there b_there
      kept =
          let one = stmts-keep (cond_fields test) a in
          let other = stmts-keep (cond_fields test) b in
          sym (λ i. one i && other i)

      apart : StmtTrees
      apart = more_stmts (branch line test a b) (more_stmts (branch later other c d) rest)

      straight : StmtTrees
      straight = more_stmts (branch line test (joined a c) (joined b d)) rest

      crossed : StmtTrees
      crossed = more_stmts (branch line test (joined a d) (joined b c)) rest

      turned : StmtTrees
      turned = more_stmts (branch line other (joined b c) (joined a d)) rest

      turned_or : StmtTrees
      turned_or = if keep_test test a b && is_not_of test other then turned else apart

      crossed_or : StmtTrees
      crossed_or = if keep_test test a b && is_not_of other test then crossed else turned_or

      apart_there : StmtTrees
      apart_there = more_stmts (branch line test a_there b_there) (more_stmts (branch later other c_there d_there) rest_there)

      straight_there : StmtTrees
      straight_there = more_stmts (branch line test (joined a_there c_there) (joined b_there d_there)) rest_there

      turned_there : Bool → StmtTrees
      turned_there k = if k && is_not_of test other
          then more_stmts (branch line other (joined b_there c_there) (joined a_there d_there)) rest_there
          else apart_there

      crossed_there : Bool → StmtTrees
      crossed_there k = if k && is_not_of other test
          then more_stmts (branch line test (joined a_there d_there) (joined b_there c_there)) rest_there
          else turned_there k

  mutual
    placed : (x : StmtTree) (xs : StmtTrees) →
        turned_stmts number (put_before x xs) ≡ put_before (turned_stmt number x) (turned_stmts number xs)
    placed (branch line test a b) (more_stmts (branch later other c d) rest) =
        neighbours line later test other a b c d rest (joins a) (joins b)
        ∙ (λ i. put_before (branch line (sym (cond-same number test) i) (turned_stmts number a) (turned_stmts number b))
        (more_stmts (branch later (sym (cond-same number other) i) (turned_stmts number c) (turned_stmts number d))
        (turned_stmts number rest)))
    placed x xs = refl

    joins : (xs ys : StmtTrees) →
        turned_stmts number (joined xs ys) ≡ joined (turned_stmts number xs) (turned_stmts number ys)
    joins no_stmts ys = refl
    joins (more_stmts x xs) ys = placed x (joined xs ys) ∙ ap (put_before (turned_stmt number x)) (joins xs ys)

  fails : (t : CondTree) (xs : StmtTrees) → turned_stmts number (where_fails t xs) ≡ where_fails t (turned_stmts number xs)
  fails t (more_stmts (branch line other x no_stmts) no_stmts) =
      choice (opposite t other) x (more_stmts (branch line other x no_stmts) no_stmts) (turned_stmts number x)
      (more_stmts (turned_stmt number (branch line other x no_stmts)) no_stmts) refl refl
      ∙ (λ i. if opposite t (sym (cond-same number other) i) then turned_stmts number x
      else more_stmts (turned_stmt number (branch line other x no_stmts)) no_stmts)
  fails t xs = refl

  -- ---- Statements

  mutual
    stmt-turned : (x : StmtTree) → turned_stmt number (fused_stmt x) ≡ fused_stmt (turned_stmt number x)
    stmt-turned (assign line f e) =
        ap (assign line f) (expr-same number (simplified_expr e) ∙ ap simplified_expr (sym (expr-same number e)))
    stmt-turned (assign_at line f index e) =
        let at = expr-same number (simplified_expr index) ∙ ap simplified_expr (sym (expr-same number index)) in
        let value = expr-same number (simplified_expr e) ∙ ap simplified_expr (sym (expr-same number e)) in
        (λ i. assign_at line f (at i) (value i))
    stmt-turned (branch line test a b) =
        let one = stmts-turned a in
        let other = fails test (fused_stmts b) ∙ ap (where_fails test) (stmts-turned b)
        ∙ ap (λ c. where_fails c (fused_stmts (turned_stmts number b))) (sym (cond-same number test)) in
        (λ i. branch line (renamed_cond (λ leaf. leaf) (λ k. k) number test) (one i) (other i))
    stmt-turned (call line k target es) =
        ap (call line (number k) target) (exprs-same number (simplified_exprs es) ∙ ap simplified_exprs (sym (exprs-same number es)))

    pub stmts-turned : (xs : StmtTrees) → turned_stmts number (fused_stmts xs) ≡ fused_stmts (turned_stmts number xs)
    stmts-turned no_stmts = refl
    stmts-turned (more_stmts x xs) =
        let one = stmt-turned x in
        let rest = stmts-turned xs in
        placed (fused_stmt x) (fused_stmts xs) ∙ (λ i. put_before (one i) (rest i))
