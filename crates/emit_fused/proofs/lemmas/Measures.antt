-- What is measured of statements by the parts of which they are made is the same when they are fused.
use Rattle.std.specs.Prelude.{◌≡◌, ℕ, ◌&&◌, if◌then◌else◌}
use Rattle.std.proofs.Common.{refl, sym, ap, ap₂, ◌∙◌}
use Rattle.std.proofs.lemmas.Bool.{cond_both}
use Rattle.c_syntax.specs.Tree.{ExprTree, ExprTrees, CondTree, StmtTree, assign, assign_at, branch, call, StmtTrees, no_stmts, more_stmts}
use Rattle.c_syntax.specs.declared.code.Target.{Target}
use Rattle.emit_fused.specs.Same.{same_cond, is_not_of, opposite}
use Rattle.emit_fused.specs.Kept.{keep_test}
use Rattle.emit_fused.specs.Simplified.{simplified_expr, simplified_exprs}
use Rattle.emit_fused.specs.Fused.{put_before, joined, where_fails, fused_stmt, fused_stmts}

-- a sum, or a greatest number
pub record IsSum (op : ℕ → ℕ → ℕ) : Type 0 where
  pub alone : (n : ℕ) → op n 0 ≡ n
  pub regrouped : (a b c : ℕ) → op (op a b) c ≡ op a (op b c)
  pub either_way : (a b : ℕ) → op a b ≡ op b a

-- a measure of statements goes by their parts, tests aside, and minds no factor that is 1
pub record IsMeasure (op : ℕ → ℕ → ℕ) (weight : StmtTree → ℕ) (weights : StmtTrees → ℕ) : Type 0 where
  pub none : weights no_stmts ≡ 0
  pub more : (x : StmtTree) (xs : StmtTrees) → weights (more_stmts x xs) ≡ op (weight x) (weights xs)
  pub branches : (line : ℕ) (t : CondTree) (a b : StmtTrees) → weight (branch line t a b) ≡ op (weights a) (weights b)
  pub stores : (line f : ℕ) (e : ExprTree) → weight (assign line f (simplified_expr e)) ≡ weight (assign line f e)
  pub items : (line f : ℕ) (index e : ExprTree) →
      weight (assign_at line f (simplified_expr index) (simplified_expr e)) ≡ weight (assign_at line f index e)
  pub calls : (line k : ℕ) (target : Target) (es : ExprTrees) →
      weight (call line k target (simplified_exprs es)) ≡ weight (call line k target es)

module _ (op : ℕ → ℕ → ℕ) (sums : IsSum op) where
  exchanged : (a b c d : ℕ) → op (op a c) (op b d) ≡ op (op a b) (op c d)
  exchanged a b c d =
      sums.regrouped a c (op b d) ∙ ap (op a) (sym (sums.regrouped c b d)) ∙ ap (λ x. op a (op x d)) (sums.either_way c b)
      ∙ ap (op a) (sums.regrouped b c d) ∙ sym (sums.regrouped a b (op c d))

  -- the parts of two pairs, before a third
  paired : (a b c d r m n : ℕ) → op m n ≡ op (op a b) (op c d) → op (op m n) r ≡ op (op a b) (op (op c d) r)
  paired a b c d r m n is = ap (λ x. op x r) is ∙ sums.regrouped (op a b) (op c d) r

  module _ (weight : StmtTree → ℕ) (weights : StmtTrees → ℕ) (is : IsMeasure op weight weights) where
    neighbours : (line later : ℕ) (test other : CondTree) (a b c d rest : StmtTrees) →
        ((ys : StmtTrees) → weights (joined a ys) ≡ op (weights a) (weights ys)) →
        ((ys : StmtTrees) → weights (joined b ys) ≡ op (weights b) (weights ys)) →
        weights (put_before (branch line test a b) (more_stmts (branch later other c d) rest))
        ≡ op (weight (branch line test a b)) (weights (more_stmts (branch later other c d) rest))
    neighbours line later test other a b c d rest with_a with_b =
        cond_both (keep_test test a b && same_cond test other) straight crossed_or Weighs
        (λ same. fused test (joined a c) (joined b d)
        (ap₂ op (with_a c) (with_b d) ∙ exchanged (weights a) (weights b) (weights c) (weights d)))
        (λ differ. cond_both (keep_test test a b && is_not_of other test) crossed turned_or Weighs
        (λ same. fused test (joined a d) (joined b c)
        (ap₂ op (with_a d) (with_b c) ∙ exchanged (weights a) (weights b) (weights d) (weights c)
        ∙ ap (op (op (weights a) (weights b))) (sums.either_way (weights d) (weights c))))
        (λ unlike. cond_both (keep_test test a b && is_not_of test other) turned apart Weighs
        (λ same. fused other (joined b c) (joined a d)
        (ap₂ op (with_b c) (with_a d) ∙ exchanged (weights b) (weights a) (weights c) (weights d)
        ∙ ap (λ x. op x (op (weights c) (weights d))) (sums.either_way (weights b) (weights a))))
        (λ nothing. is.more (branch line test a b) (more_stmts (branch later other c d) rest))))
      where
        apart : StmtTrees
        apart = more_stmts (branch line test a b) (more_stmts (branch later other c d) rest)

        straight : StmtTrees
        straight = more_stmts (branch line test (joined a c) (joined b d)) rest

        crossed : StmtTrees
        crossed = more_stmts (branch line test (joined a d) (joined b c)) rest

        turned : StmtTrees
        turned = more_stmts (branch line other (joined b c) (joined a d)) rest

        turned_or : StmtTrees
        turned_or = if keep_test test a b && is_not_of test other then turned else apart

        crossed_or : StmtTrees
        crossed_or = if keep_test test a b && is_not_of other test then crossed else turned_or

        Weighs : StmtTrees → Type 0
        Weighs xs = weights xs ≡ op (weight (branch line test a b)) (weights (more_stmts (branch later other c d) rest))

        -- of both as they are
        before : op (weight (branch line test a b)) (weights (more_stmts (branch later other c d) rest))
            ≡ op (op (weights a) (weights b)) (op (op (weights c) (weights d)) (weights rest))
        before =
            ap₂ op (is.branches line test a b)
            (is.more (branch later other c d) rest ∙ ap (λ x. op x (weights rest)) (is.branches later other c d))

        fused : (u : CondTree) (xs ys : StmtTrees) →
            op (weights xs) (weights ys) ≡ op (op (weights a) (weights b)) (op (weights c) (weights d)) →
            Weighs (more_stmts (branch line u xs ys) rest)
        fused u xs ys same =
            is.more (branch line u xs ys) rest ∙ ap (λ x. op x (weights rest)) (is.branches line u xs ys)
            ∙ paired (weights a) (weights b) (weights c) (weights d) (weights rest) (weights xs) (weights ys) same ∙ sym before

    mutual
      pub put_before-weighs : (x : StmtTree) (xs : StmtTrees) → weights (put_before x xs) ≡ op (weight x) (weights xs)
      put_before-weighs (branch line test a b) (more_stmts (branch later other c d) rest) =
          neighbours line later test other a b c d rest (joined-weighs a) (joined-weighs b)
      put_before-weighs x xs = is.more x xs

      pub joined-weighs : (xs ys : StmtTrees) → weights (joined xs ys) ≡ op (weights xs) (weights ys)
      joined-weighs no_stmts ys = sym (ap (λ n. op n (weights ys)) is.none ∙ sums.either_way 0 (weights ys) ∙ sums.alone (weights ys))
      joined-weighs (more_stmts x xs) ys =
          put_before-weighs x (joined xs ys) ∙ ap (op (weight x)) (joined-weighs xs ys)
          ∙ sym (sums.regrouped (weight x) (weights xs) (weights ys)) ∙ sym (ap (λ n. op n (weights ys)) (is.more x xs))

    -- one statement alone
    one-weighs : (x : StmtTree) → weights (more_stmts x no_stmts) ≡ weight x
    one-weighs x = is.more x no_stmts ∙ ap (op (weight x)) is.none ∙ sums.alone (weight x)

    pub where_fails-weighs : (t : CondTree) (xs : StmtTrees) → weights (where_fails t xs) ≡ weights xs
    where_fails-weighs t (more_stmts (branch line other x no_stmts) no_stmts) =
        cond_both (opposite t other) x (more_stmts (branch line other x no_stmts) no_stmts)
        (λ xs. weights xs ≡ weights (more_stmts (branch line other x no_stmts) no_stmts))
        (λ same. sym (one-weighs (branch line other x no_stmts) ∙ is.branches line other x no_stmts ∙ ap (op (weights x)) is.none
        ∙ sums.alone (weights x)))
        (λ same. refl)
    where_fails-weighs t xs = refl

    mutual
      pub fused_stmt-weighs : (x : StmtTree) → weight (fused_stmt x) ≡ weight x
      fused_stmt-weighs (assign line f e) = is.stores line f e
      fused_stmt-weighs (assign_at line f index e) = is.items line f index e
      fused_stmt-weighs (branch line t a b) =
          is.branches line t (fused_stmts a) (where_fails t (fused_stmts b))
          ∙ ap₂ op (fused_stmts-weigh a) (where_fails-weighs t (fused_stmts b) ∙ fused_stmts-weigh b)
          ∙ sym (is.branches line t a b)
      fused_stmt-weighs (call line k target es) = is.calls line k target es

      pub fused_stmts-weigh : (xs : StmtTrees) → weights (fused_stmts xs) ≡ weights xs
      fused_stmts-weigh no_stmts = refl
      fused_stmts-weigh (more_stmts x xs) =
          put_before-weighs (fused_stmt x) (fused_stmts xs) ∙ ap₂ op (fused_stmt-weighs x) (fused_stmts-weigh xs) ∙ sym (is.more x xs)
