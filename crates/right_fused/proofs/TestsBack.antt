-- What holds of the tests that are left of fused statements, by what these read, held of all tests.
use Rattle.std.specs.Prelude.{◌≡◌, ℕ, Bool, true, false, ◌&&◌, if◌then◌else◌}
use Rattle.std.proofs.Common.{refl, sym, ap, ◌⊎◌, inl, inr}
use Rattle.c_syntax.specs.declared.code.Target.{Target}
use Rattle.c_syntax.specs.Tree.{ExprTree, ExprTrees, CondTree, negated, StmtTree, assign, assign_at, branch, call, StmtTrees, no_stmts, more_stmts}
use Rattle.emit_shape.specs.Reads.{cond_leaves}
use Rattle.emit_fused.specs.Same.{same_cond, is_not_of, opposite}
use Rattle.emit_fused.specs.Kept.{keep_test}
use Rattle.emit_fused.specs.Fused.{put_before, joined, where_fails, fused_stmt, fused_stmts}
use Rattle.emit_fused.proofs.lemmas.SameTests.{same-cond, not-of, opposites}

-- what holds of the first of three whose test holds, or else of the last
chosen : {A : Type 0} (P : A → Type 0) (one two three : Bool) (w x y z : A) → (one ≡ true → P w) → (two ≡ true → P x) →
    (three ≡ true → P y) → P z → P (if one then w else if two then x else if three then y else z)
chosen P true two three w x y z h g k l = h refl
chosen P false true three w x y z h g k l = g refl
chosen P false false true w x y z h g k l = k refl
chosen P false false false w x y z h g k l = l

-- the second of two tests
second : (one two : Bool) → (one && two) ≡ true → two ≡ true
second true two h = h
second false two h = absurd (let wrong : ⊥ = cc h in wrong)

-- What holds of statements is what holds of each, and of an `if` what holds of its test and bodies.
pub record ByParts (S : StmtTree → Type 0) (SS : StmtTrees → Type 0) (C : CondTree → Type 0) : Type 0 where
  pub none : SS no_stmts
  pub more : (s : StmtTree) (ss : StmtTrees) → S s → SS ss → SS (more_stmts s ss)
  pub first : (s : StmtTree) (ss : StmtTrees) → SS (more_stmts s ss) → S s
  pub rest : (s : StmtTree) (ss : StmtTrees) → SS (more_stmts s ss) → SS ss
  pub choice : (line : ℕ) (test : CondTree) (a b : StmtTrees) → C test → SS a → SS b → S (branch line test a b)
  pub test : (line : ℕ) (test : CondTree) (a b : StmtTrees) → S (branch line test a b) → C test
  pub on_true : (line : ℕ) (test : CondTree) (a b : StmtTrees) → S (branch line test a b) → SS a
  pub on_false : (line : ℕ) (test : CondTree) (a b : StmtTrees) → S (branch line test a b) → SS b

-- what holds of tests is a matter of what they read, and holds of all but an `if`
module _ (S : StmtTree → Type 0) (SS : StmtTrees → Type 0) (C : CondTree → Type 0) (is : ByParts S SS C)
    (alike : (a b : CondTree) → cond_leaves a ≡ cond_leaves b → C a → C b)
    (stored : (line f : ℕ) (e : ExprTree) → S (assign line f e))
    (stored_at : (line f : ℕ) (index e : ExprTree) → S (assign_at line f index e))
    (called : (line k : ℕ) (target : Target) (es : ExprTrees) → S (call line k target es)) where
  like-same : (keeps : Bool) (a b : CondTree) → (keeps && same_cond a b) ≡ true → C a → C b
  like-same keeps a b h = alike a b (ap cond_leaves (same-cond a b (second keeps (same_cond a b) h)))

  -- one of two tests, of which the first is `!` of the other
  like-not : (keeps : Bool) (a b : CondTree) → (keeps && is_not_of a b) ≡ true → C b → C a
  like-not keeps a b h = alike b a (sym (ap cond_leaves (not-of a b (second keeps (is_not_of a b) h))))

  like-negated : (keeps : Bool) (a b : CondTree) → (keeps && is_not_of a b) ≡ true → C a → C b
  like-negated keeps a b h = alike a b (ap cond_leaves (not-of a b (second keeps (is_not_of a b) h)))

  like-opposite : (a b : CondTree) → opposite a b ≡ true → C a → C b
  like-opposite a b h holds = by (opposites a b h)
    where
      by : (a ≡ negated b) ⊎ (b ≡ negated a) → C b
      by (inl e) = alike a b (ap cond_leaves e) holds
      by (inr e) = alike a b (sym (ap cond_leaves e)) holds

  mutual
    before-back : (s : StmtTree) (ss : StmtTrees) → SS (put_before s ss) → S s × SS ss
    before-back (branch line test a b) (more_stmts (branch later other c d) rest) =
        let keeps = keep_test test a b in
        let Back : StmtTrees → Type 0 = λ made. SS made → S (branch line test a b) × SS (more_stmts (branch later other c d) rest) in
        let both : C test → C other → SS a → SS b → SS c → SS d → SS rest →
        S (branch line test a b) × SS (more_stmts (branch later other c d) rest) =
        λ one two on_a on_b on_c on_d left. (
          is.choice line test a b one on_a on_b,
          is.more (branch later other c d) rest (is.choice later other c d two on_c on_d) left,
        ) in
        chosen Back (keeps && same_cond test other) (keeps && is_not_of other test) (keeps && is_not_of test other)
        (more_stmts (branch line test (joined a c) (joined b d)) rest)
        (more_stmts (branch line test (joined a d) (joined b c)) rest)
        (more_stmts (branch line other (joined b c) (joined a d)) rest)
        (more_stmts (branch line test a b) (more_stmts (branch later other c d) rest))
        (λ same h.
        let made = is.first (branch line test (joined a c) (joined b d)) rest h in
        let one = is.test line test (joined a c) (joined b d) made in
        let ac = joined-back a c (is.on_true line test (joined a c) (joined b d) made) in
        let bd = joined-back b d (is.on_false line test (joined a c) (joined b d) made) in
        both one (like-same keeps test other same one) ac.0 bd.0 ac.1 bd.1
        (is.rest (branch line test (joined a c) (joined b d)) rest h))
        (λ not h.
        let made = is.first (branch line test (joined a d) (joined b c)) rest h in
        let one = is.test line test (joined a d) (joined b c) made in
        let ad = joined-back a d (is.on_true line test (joined a d) (joined b c) made) in
        let bc = joined-back b c (is.on_false line test (joined a d) (joined b c) made) in
        both one (like-not keeps other test not one) ad.0 bc.0 bc.1 ad.1
        (is.rest (branch line test (joined a d) (joined b c)) rest h))
        (λ not h.
        let made = is.first (branch line other (joined b c) (joined a d)) rest h in
        let two = is.test line other (joined b c) (joined a d) made in
        let bc = joined-back b c (is.on_true line other (joined b c) (joined a d) made) in
        let ad = joined-back a d (is.on_false line other (joined b c) (joined a d) made) in
        both (like-not keeps test other not two) two ad.0 bc.0 bc.1 ad.1
        (is.rest (branch line other (joined b c) (joined a d)) rest h))
        (λ h. (
          is.first (branch line test a b) (more_stmts (branch later other c d) rest) h,
          is.rest (branch line test a b) (more_stmts (branch later other c d) rest) h,
        ))
    before-back s ss = λ h. (is.first s ss h, is.rest s ss h)

    joined-back : (ss later : StmtTrees) → SS (joined ss later) → SS ss × SS later
    joined-back no_stmts later = λ h. (is.none, h)
    joined-back (more_stmts s ss) later = λ h.
        let first = before-back s (joined ss later) h in
        let more = joined-back ss later first.1 in (is.more s ss first.0 more.0, more.1)

  where-back : (test : CondTree) (ss : StmtTrees) → C test → SS (where_fails test ss) → SS ss
  where-back test (more_stmts (branch line other on_true no_stmts) no_stmts) one =
      by (opposite test other) refl
    where
      by : (t : Bool) → opposite test other ≡ t →
          SS (if t then on_true else more_stmts (branch line other on_true no_stmts) no_stmts) →
          SS (more_stmts (branch line other on_true no_stmts) no_stmts)
      by true e h =
          is.more (branch line other on_true no_stmts) no_stmts
          (is.choice line other on_true no_stmts (like-opposite test other e one) h is.none) is.none
      by false e h = h
  where-back test ss one = λ h. h

  mutual
    one-back : (s : StmtTree) → S (fused_stmt s) → S s
    one-back (assign line f e) h = stored line f e
    one-back (assign_at line f index e) h = stored_at line f index e
    one-back (branch line test a b) h =
        let other = where_fails test (fused_stmts b) in
        let one = is.test line test (fused_stmts a) other h in
        is.choice line test a b one (all-back a (is.on_true line test (fused_stmts a) other h))
        (all-back b (where-back test (fused_stmts b) one (is.on_false line test (fused_stmts a) other h)))
    one-back (call line k target es) h = called line k target es

    pub all-back : (ss : StmtTrees) → SS (fused_stmts ss) → SS ss
    all-back no_stmts h = is.none
    all-back (more_stmts s ss) h =
        let parts = before-back (fused_stmt s) (fused_stmts ss) h in
        is.more s ss (one-back s parts.0) (all-back ss parts.1)
