-- What holds of code by its parts holds of it when it is fused.
use Rattle.std.specs.Prelude.{ℕ, ◌&&◌, if◌then◌else◌}
use Rattle.std.proofs.lemmas.Bool.{cond_both}
use Rattle.c_syntax.specs.Tree.{ExprTree, ExprTrees, CondTree, StmtTree, assign, assign_at, branch, call, StmtTrees, no_stmts, more_stmts}
use Rattle.c_syntax.specs.declared.code.Target.{Target}
use Rattle.emit_fused.specs.Same.{same_cond, is_not_of, opposite}
use Rattle.emit_fused.specs.Kept.{keep_test}
use Rattle.emit_fused.specs.Simplified.{simplified_expr, simplified_exprs}
use Rattle.emit_fused.specs.Fused.{put_before, joined, where_fails, fused_stmt, fused_stmts}

-- At each level something holds of statements where it holds of each, and of an `if` by its test and
-- by what holds of its branches one level below. What holds below holds above.
pub record IsByParts (below : ℕ → ℕ) (C : CondTree → Type 0) (T : ℕ → StmtTree → Type 0) (S : ℕ → StmtTrees → Type 0) : Type 0 where
  pub none : (i : ℕ) → S i no_stmts
  pub more : (i : ℕ) (x : StmtTree) (xs : StmtTrees) → T i x → S i xs → S i (more_stmts x xs)
  pub first : (i : ℕ) (x : StmtTree) (xs : StmtTrees) → S i (more_stmts x xs) → T i x
  pub rest : (i : ℕ) (x : StmtTree) (xs : StmtTrees) → S i (more_stmts x xs) → S i xs
  pub test : (i line : ℕ) (t : CondTree) (a b : StmtTrees) → T i (branch line t a b) → C t
  pub on_true : (i line : ℕ) (t : CondTree) (a b : StmtTrees) → T i (branch line t a b) → S (below i) a
  pub on_false : (i line : ℕ) (t : CondTree) (a b : StmtTrees) → T i (branch line t a b) → S (below i) b
  pub rebuilt : (i line later : ℕ) (t u : CondTree) (a b c d : StmtTrees) → T i (branch line t a b) → C u → S (below i) c →
      S (below i) d → T i (branch later u c d)
  pub raised : (i : ℕ) (xs : StmtTrees) → S (below i) xs → S i xs

-- What holds of code before it is fused, V and W, holds afterwards, T and S, where it does of plain
-- statements when they are simplified, and of an `if` when its branches are replaced.
pub record IsCarried (below : ℕ → ℕ) (V : ℕ → StmtTree → Type 0) (W : ℕ → StmtTrees → Type 0) (T : ℕ → StmtTree → Type 0)
    (S : ℕ → StmtTrees → Type 0) : Type 0 where
  pub first : (i : ℕ) (x : StmtTree) (xs : StmtTrees) → W i (more_stmts x xs) → V i x
  pub rest : (i : ℕ) (x : StmtTree) (xs : StmtTrees) → W i (more_stmts x xs) → W i xs
  pub on_true : (i line : ℕ) (t : CondTree) (a b : StmtTrees) → V i (branch line t a b) → W (below i) a
  pub on_false : (i line : ℕ) (t : CondTree) (a b : StmtTrees) → V i (branch line t a b) → W (below i) b
  pub branches : (i line : ℕ) (t : CondTree) (a b c d : StmtTrees) → V i (branch line t a b) → S (below i) c → S (below i) d →
      T i (branch line t c d)
  pub stores : (i line f : ℕ) (e : ExprTree) → V i (assign line f e) → T i (assign line f (simplified_expr e))
  pub items : (i line f : ℕ) (index e : ExprTree) → V i (assign_at line f index e) →
      T i (assign_at line f (simplified_expr index) (simplified_expr e))
  pub calls : (i line k : ℕ) (target : Target) (es : ExprTrees) → V i (call line k target es) →
      T i (call line k target (simplified_exprs es))

module _ (below : ℕ → ℕ) (C : CondTree → Type 0) (T : ℕ → StmtTree → Type 0) (S : ℕ → StmtTrees → Type 0)
    (are : IsByParts below C T S) where
  -- two neighbours, from what holds of their joined branches
  neighbours : (i line later : ℕ) (test other : CondTree) (a b c d rest : StmtTrees) → T i (branch line test a b) →
      S i (more_stmts (branch later other c d) rest) → ((ys : StmtTrees) → S (below i) ys → S (below i) (joined a ys)) →
      ((ys : StmtTrees) → S (below i) ys → S (below i) (joined b ys)) →
      S i (put_before (branch line test a b) (more_stmts (branch later other c d) rest))
  neighbours i line later test other a b c d rest h g with_a with_b =
      cond_both (keep_test test a b && same_cond test other) straight crossed_or (S i)
      (λ is. before test (joined a c) (joined b d) tested (with_a c on_true) (with_b d on_false))
      (λ differ. cond_both (keep_test test a b && is_not_of other test) crossed turned_or (S i)
      (λ is. before test (joined a d) (joined b c) tested (with_a d on_false) (with_b c on_true))
      (λ unlike. cond_both (keep_test test a b && is_not_of test other) turned apart (S i)
      (λ is. before other (joined b c) (joined a d) (are.test i later other c d second) (with_b c on_true) (with_a d on_false))
      (λ nothing. are.more i (branch line test a b) (more_stmts (branch later other c d) rest) h g)))
    where
      apart : StmtTrees
      apart = more_stmts (branch line test a b) (more_stmts (branch later other c d) rest)

      straight : StmtTrees
      straight = more_stmts (branch line test (joined a c) (joined b d)) rest

      crossed : StmtTrees
      crossed = more_stmts (branch line test (joined a d) (joined b c)) rest

      turned : StmtTrees
      turned = more_stmts (branch line other (joined b c) (joined a d)) rest

      turned_or : StmtTrees
      turned_or = if keep_test test a b && is_not_of test other then turned else apart

      crossed_or : StmtTrees
      crossed_or = if keep_test test a b && is_not_of other test then crossed else turned_or

      second : T i (branch later other c d)
      second = are.first i (branch later other c d) rest g

      on_true : S (below i) c
      on_true = are.on_true i later other c d second

      on_false : S (below i) d
      on_false = are.on_false i later other c d second

      tested : C test
      tested = are.test i line test a b h

      before : (u : CondTree) (xs ys : StmtTrees) → C u → S (below i) xs → S (below i) ys → S i (more_stmts (branch line u xs ys) rest)
      before u xs ys holds firsts seconds =
          are.more i (branch line u xs ys) rest (are.rebuilt i line line test u a b xs ys h holds firsts seconds)
          (are.rest i (branch later other c d) rest g)

  mutual
    pub put_before-keeps : (i : ℕ) (x : StmtTree) (xs : StmtTrees) → T i x → S i xs → S i (put_before x xs)
    put_before-keeps i (branch line test a b) (more_stmts (branch later other c d) rest) h g =
        neighbours i line later test other a b c d rest h g
        (λ ys hold. joined-keeps (below i) a ys (are.on_true i line test a b h) hold)
        (λ ys hold. joined-keeps (below i) b ys (are.on_false i line test a b h) hold)
    put_before-keeps i x xs h g = are.more i x xs h g

    pub joined-keeps : (i : ℕ) (xs ys : StmtTrees) → S i xs → S i ys → S i (joined xs ys)
    joined-keeps i no_stmts ys h g = g
    joined-keeps i (more_stmts x xs) ys h g =
        put_before-keeps i x (joined xs ys) (are.first i x xs h) (joined-keeps i xs ys (are.rest i x xs h) g)

  pub where_fails-keeps : (i : ℕ) (t : CondTree) (xs : StmtTrees) → S i xs → S i (where_fails t xs)
  where_fails-keeps i t (more_stmts (branch line other x no_stmts) no_stmts) h =
      cond_both (opposite t other) x (more_stmts (branch line other x no_stmts) no_stmts) (S i)
      (λ is. are.raised i x (are.on_true i line other x no_stmts (are.first i (branch line other x no_stmts) no_stmts h))) (λ is. h)
  where_fails-keeps i t xs h = h

  module _ (V : ℕ → StmtTree → Type 0) (W : ℕ → StmtTrees → Type 0) (carried : IsCarried below V W T S) where
    mutual
      pub fused_stmt-keeps : (x : StmtTree) (i : ℕ) → V i x → T i (fused_stmt x)
      fused_stmt-keeps (assign line f e) i h = carried.stores i line f e h
      fused_stmt-keeps (assign_at line f index e) i h = carried.items i line f index e h
      fused_stmt-keeps (branch line t a b) i h =
          carried.branches i line t a b (fused_stmts a) (where_fails t (fused_stmts b)) h
          (fused_stmts-keep a (below i) (carried.on_true i line t a b h))
          (where_fails-keeps (below i) t (fused_stmts b)
          (fused_stmts-keep b (below i) (carried.on_false i line t a b h)))
      fused_stmt-keeps (call line k target es) i h = carried.calls i line k target es h

      pub fused_stmts-keep : (xs : StmtTrees) (i : ℕ) → W i xs → S i (fused_stmts xs)
      fused_stmts-keep no_stmts i h = are.none i
      fused_stmts-keep (more_stmts x xs) i h =
          put_before-keeps i (fused_stmt x) (fused_stmts xs) (fused_stmt-keeps x i (carried.first i x xs h))
          (fused_stmts-keep xs i (carried.rest i x xs h))
