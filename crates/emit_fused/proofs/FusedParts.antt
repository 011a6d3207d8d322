-- Neighbouring `if`s of one test do as one what they do, in no more steps, where the first leaves what the test reads.
use Rattle.std.specs.Prelude.{◌≡◌, ℕ, ◌+◌, ◌<◌, ◌≤◌, ◌&&◌, nat_lt, not, Bool, true, false, if◌then◌else◌, List, ◌⊎◌}
use Rattle.std.proofs.Common.{refl, sym, ap, subst, ◌∙◌, arith, inl, inr}
use Rattle.std.proofs.lemmas.Bool.{and_from, and_parts, cases_lt, cond_both}
use Rattle.c_syntax.specs.declared.fault.Why.TheVariants.{Steps}
use Rattle.c_syntax.specs.Tree.{CondTree, negated, StmtTree, branch, StmtTrees, no_stmts, more_stmts, stmts_append}
use Rattle.c_semantics.specs.Cells.{Cells}
use Rattle.c_semantics.specs.Values.{Answer, gives, sticks, and_then, stuck_at, step_limit, reads, eval_cond}
use Rattle.c_semantics.specs.Machine.{Outcome, done, stuck, then_run, on_answer, begin_step, routine_at, Scope, run_stmt, run_stmts}
use Rattle.c_semantics.proofs.lemmas.Runs.{run_stmts-append, then_run-then_run}
use Rattle.c_semantics.proofs.lemmas.RunLaws.{sequences_run_in_order}
use Rattle.c_refinement.specs.Evaluations.{RefinesAnswer, GivesFrom, AreSteady}
use Rattle.c_refinement.specs.Refinement.{Refines, in_place}
use Rattle.c_refinement.specs.Routines.{RefinesRoutine, RefinesStmt, RefinesStmts}
use Rattle.c_refinement.proofs.lemmas.Answers.{cond-refines}
use Rattle.c_refinement.proofs.lemmas.Onward.{cond-onward}
use Rattle.c_refinement.proofs.lemmas.Outcomes.{outcomes-compose, behind-refines, then_run-refines, begin_step-refines, begin_step-dropped}
use Rattle.c_refinement.proofs.lemmas.Code.{branch-refines, more-refine, same_stmt-refines, same-refine}
use Rattle.emit_fused.specs.Same.{same_cond, is_not_of, opposite}
use Rattle.emit_fused.specs.Kept.{cond_fields, stmts_keep, keep_test}
use Rattle.emit_fused.specs.Fused.{put_before, joined, where_fails}
use Rattle.emit_fused.proofs.lemmas.SameTests.{same-cond, not-of, opposites}
use Rattle.emit_fused.proofs.SameReads.{cond-same}
use Rattle.emit_fused.proofs.KeptFields.{AreSameAt, Keeps, stmts-keep}

-- ---- Outcomes

-- what follows a step, and an answer
then-step : (line : ℕ) (cells : Cells) (n : ℕ) (go : ℕ → Outcome) (next : Cells → ℕ → Outcome) →
    then_run (begin_step line cells n go) next ≡ begin_step line cells n (λ count. then_run (go count) next)
then-step line cells n go next = by (nat_lt n step_limit)
  where
    by : (b : Bool) → then_run (if b then go (n + 1) else stuck (stuck_at line Steps) cells) next
        ≡ (if b then then_run (go (n + 1)) next else stuck (stuck_at line Steps) cells)
    by true = refl
    by false = refl

then-answer : (o : Answer Bool) (cells : Cells) (go : Bool → ℕ → Outcome) (next : Cells → ℕ → Outcome) →
    then_run (on_answer o cells go) next ≡ on_answer o cells (λ holds count. then_run (go holds count) next)
then-answer (gives holds n) cells go next = refl
then-answer (sticks at) cells go next = refl

-- among procedures that do the same from fewer steps
module _ (s : Scope) (steady : AreSteady s.functions)
    (itself : (k : ℕ) → RefinesRoutine in_place (routine_at s.routines k) (routine_at s.routines k)) where
  abbrev pub Refined : StmtTrees → StmtTrees → Type 0
  Refined xs ys = RefinesStmts in_place s s xs ys

  pub same : (xs : StmtTrees) → Refined xs xs
  same xs = same-refine in_place s s.routines steady itself xs

  same_stmt : (x : StmtTree) → RefinesStmt in_place s s x x
  same_stmt x = same_stmt-refines in_place s s.routines steady itself x

  pub further : (xs ys zs : StmtTrees) → Refined xs ys → Refined ys zs → Refined xs zs
  further xs ys zs h g cells n m fewer =
      outcomes-compose in_place in_place (run_stmts s xs cells n) (run_stmts s ys cells n) (run_stmts s zs cells m)
      (h cells n n (omega arith)) (g cells n m fewer)

  further_stmt : (x y z : StmtTree) → RefinesStmt in_place s s x y → RefinesStmt in_place s s y z → RefinesStmt in_place s s x z
  further_stmt x y z h g cells n m fewer =
      outcomes-compose in_place in_place (run_stmt s x cells n) (run_stmt s y cells n) (run_stmt s z cells m)
      (h cells n n (omega arith)) (g cells n m fewer)

  -- other branches
  branches : (line : ℕ) (t : CondTree) (xs ys us vs : StmtTrees) → Refined xs us → Refined ys vs →
      RefinesStmt in_place s s (branch line t xs ys) (branch line t us vs)
  branches line t xs ys us vs one other cells n m fewer =
      branch-refines in_place s s line line cells n m fewer t t xs ys us vs
      (cond-refines s.functions steady (reads s.values cells) line line t) one other

  -- ---- Tests

  abbrev tested : Cells → ℕ → CondTree → ℕ → Answer Bool
  tested cells line t count = eval_cond s.functions (reads s.values cells) line t count

  abbrev chosen : StmtTrees → StmtTrees → Cells → Bool → ℕ → Outcome
  chosen a b cells holds = (if holds then run_stmts s a else run_stmts s b) cells

  -- what a test comes to it comes to at each line and from each count of steps
  one_result : (cells : Cells) (t : CondTree) (line later k j : ℕ) (h g : Bool) (i l : ℕ) → tested cells line t k ≡ gives h i →
      tested cells later t j ≡ gives g l → g ≡ h
  one_result cells t line later k j h g i l first second = by (cases_lt j k)
    where
      known : (a b : Answer Bool) (x y : Bool) (p q : ℕ) → RefinesAnswer a b → a ≡ gives x p → b ≡ gives y q → y ≡ x
      known a b x y p q refines is_a is_b =
          let given : RefinesAnswer (gives x p) (gives y q) =
          subst (λ o. RefinesAnswer o (gives y q)) is_a (subst (RefinesAnswer a) is_b refines) in
          given.0

      by : (j < k) ⊎ (k ≤ j) → g ≡ h
      by (inl below) =
          known (tested cells line t k) (tested cells later t j) h g i l
          (cond-refines s.functions steady (reads s.values cells) line later t k j (omega (arith, below))) first second
      by (inr above) =
          sym (known (tested cells later t j) (tested cells line t k) g h l i
          (cond-refines s.functions steady (reads s.values cells) later line t j k above) second first)

  -- goes on by one test, of which what it came to is known
  by_test : (cells : Cells) (line : ℕ) (t : CondTree) (go next : Bool → ℕ → Outcome) (n m : ℕ) → m ≤ n →
      ((h : Bool) (k i j : ℕ) → tested cells line t k ≡ gives h i → j ≤ i → Refines in_place (go h i) (next h j)) →
      Refines in_place (begin_step line cells n (λ count. on_answer (tested cells line t count) cells go))
      (begin_step line cells m (λ count. on_answer (tested cells line t count) cells next))
  by_test cells line t go next n m fewer after =
      begin_step-refines in_place line line cells cells n m (λ count. on_answer (tested cells line t count) cells go)
      (λ count. on_answer (tested cells line t count) cells next) fewer
      (λ i j below. by i (tested cells line t i) (tested cells line t j) refl
      (cond-refines s.functions steady (reads s.values cells) line line t i j below))
    where
      by : (k : ℕ) (o p : Answer Bool) → tested cells line t k ≡ o → RefinesAnswer o p →
          Refines in_place (on_answer o cells go) (on_answer p cells next)
      by k (gives h i) (gives g j) is r =
          subst (λ x. Refines in_place (go h i) (next x j)) (sym r.0) (after h k i j is r.1)
      by k (gives h i) (sticks at) is r = absurd r
      by k (sticks at) p is r = tt

  -- a test that comes to one result is left out
  decided : (cells : Cells) (line : ℕ) (t : CondTree) (c d : StmtTrees) (h : Bool) →
      ((k l : ℕ) (g : Bool) → tested cells line t k ≡ gives g l → g ≡ h) → (n m : ℕ) → m ≤ n →
      Refines in_place (run_stmt s (branch line t c d) cells n) (chosen c d cells h m)
  decided cells line t c d h always n m fewer =
      begin_step-dropped in_place line cells n (λ count. on_answer (tested cells line t count) cells (chosen c d cells))
      (chosen c d cells h m)
      (by (tested cells line t (n + 1)) refl (cond-onward s.functions steady (reads s.values cells) line t (n + 1)))
    where
      either : (b : Bool) (i j : ℕ) → j ≤ i → Refines in_place (chosen c d cells b i) (chosen c d cells b j)
      either true i j below = same c cells i j below
      either false i j below = same d cells i j below

      by : (o : Answer Bool) → tested cells line t (n + 1) ≡ o → GivesFrom (n + 1) o →
          Refines in_place (on_answer o cells (chosen c d cells)) (chosen c d cells h m)
      by (gives g l) is later =
          subst (λ b. Refines in_place (chosen c d cells b l) (chosen c d cells h m)) (sym (always (n + 1) l g is))
          (either h l m (omega (arith, later, fewer)))
      by (sticks at) is later = tt

  -- ---- Opposite tests

  turned_run : (line : ℕ) (t : CondTree) (a b : StmtTrees) (cells : Cells) (n : ℕ) →
      run_stmt s (branch line (negated t) a b) cells n ≡ run_stmt s (branch line t b a) cells n
  turned_run line t a b cells n = λ i. begin_step line cells n (λ count. by (tested cells line t count) i)
    where
      by : (o : Answer Bool) → on_answer (and_then o (λ holds count. gives (not holds) count)) cells (chosen a b cells)
          ≡ on_answer o cells (chosen b a cells)
      by (gives true k) = refl
      by (gives false k) = refl
      by (sticks at) = refl

  turned : (line : ℕ) (t : CondTree) (a b : StmtTrees) → RefinesStmt in_place s s (branch line (negated t) a b) (branch line t b a)
  turned line t a b cells n m fewer =
      subst (λ o. Refines in_place o (run_stmt s (branch line t b a) cells m)) (sym (turned_run line t a b cells n))
      (same_stmt (branch line t b a) cells n m fewer)

  turned_back : (line : ℕ) (t : CondTree) (a b : StmtTrees) → RefinesStmt in_place s s (branch line t b a) (branch line (negated t) a b)
  turned_back line t a b cells n m fewer =
      subst (λ o. Refines in_place (run_stmt s (branch line t b a) cells n) o) (sym (turned_run line t a b cells m))
      (same_stmt (branch line t b a) cells n m fewer)

  -- ---- Two neighbours

  -- what goes on after statements, on fields that are the same for the test
  kept_then : (fields : List ℕ) (cells : Cells) (next : Cells → ℕ → Outcome) (y : StmtTrees) →
      ((others : Cells) → AreSameAt fields cells others → (n m : ℕ) → m ≤ n →
      Refines in_place (next others n) (run_stmts s y others m)) →
      (o p : Outcome) → Refines in_place o p → Keeps fields cells o → Refines in_place (then_run o next) (then_run p (run_stmts s y))
  kept_then fields cells next y after (done u) (done v) h kept =
      behind-refines in_place u.log v.log u.stores v.stores (next u.cells u.steps) (run_stmts s y v.cells v.steps) h.log h.stores
      (subst (λ c. Refines in_place (next u.cells u.steps) (run_stmts s y c v.steps)) (sym h.cells)
      (after u.cells kept u.steps v.steps h.steps))
  kept_then fields cells next y after (done u) (stuck at left) h kept = absurd h
  kept_then fields cells next y after (stuck at left) p h kept = tt

  module _ (line later : ℕ) (t : CondTree) (a b c d : StmtTrees) (keeps_a : stmts_keep (cond_fields t) a ≡ true)
      (keeps_b : stmts_keep (cond_fields t) b ≡ true) where
    abbrev second : Cells → ℕ → Outcome
    second = run_stmt s (branch later t c d)

    -- the second test comes to what the first came to
    second_decided : (cells : Cells) (h : Bool) (k i : ℕ) → tested cells line t k ≡ gives h i → (others : Cells) →
        AreSameAt (cond_fields t) cells others → (n m : ℕ) → m ≤ n → Refines in_place (second others n) (chosen c d others h m)
    second_decided cells h k i first others alike n m fewer =
        decided others later t c d h
        (λ j l g is. one_result cells t line later k j h g i l first
        (ap (λ f. f j) (sym (cond-same cells others s.values s.functions later t alike)) ∙ is))
        n m fewer

    behind_first : (x y : StmtTrees) (cells : Cells) → stmts_keep (cond_fields t) x ≡ true →
        ((others : Cells) → AreSameAt (cond_fields t) cells others → (n m : ℕ) → m ≤ n →
        Refines in_place (second others n) (run_stmts s y others m)) →
        (i j : ℕ) → j ≤ i → Refines in_place (then_run (run_stmts s x cells i) second) (run_stmts s (stmts_append x y) cells j)
    behind_first x y cells keeps after i j below =
        subst (Refines in_place (then_run (run_stmts s x cells i) second)) (sym (run_stmts-append s x y cells j))
        (kept_then (cond_fields t) cells second y after (run_stmts s x cells i) (run_stmts s x cells j) (same x cells i j below)
        (stmts-keep s (cond_fields t) x keeps cells i))

    two_tests : (cells : Cells) (n m : ℕ) → m ≤ n →
        Refines in_place (then_run (run_stmt s (branch line t a b) cells n) second)
        (run_stmt s (branch line t (stmts_append a c) (stmts_append b d)) cells m)
    two_tests cells n m fewer =
        subst (λ o. Refines in_place o (run_stmt s (branch line t (stmts_append a c) (stmts_append b d)) cells m)) (sym begins)
        (by_test cells line t (λ h i. then_run (chosen a b cells h i) second) (chosen (stmts_append a c) (stmts_append b d) cells) n m
        fewer by)
      where
        begins : then_run (run_stmt s (branch line t a b) cells n) second
            ≡ begin_step line cells n (λ count. on_answer (tested cells line t count) cells (λ h i. then_run (chosen a b cells h i) second))
        begins =
            then-step line cells n (λ count. on_answer (tested cells line t count) cells (chosen a b cells)) second
            ∙ (λ i. begin_step line cells n (λ count. then-answer (tested cells line t count) cells (chosen a b cells) second i))

        by : (h : Bool) (k i j : ℕ) → tested cells line t k ≡ gives h i → j ≤ i →
            Refines in_place (then_run (chosen a b cells h i) second) (chosen (stmts_append a c) (stmts_append b d) cells h j)
        by true k i j is below = behind_first a c cells keeps_a (second_decided cells true k i is) i j below
        by false k i j is below = behind_first b d cells keeps_b (second_decided cells false k i is) i j below

    appended : (rest : StmtTrees) → Refined (more_stmts (branch line t a b) (more_stmts (branch later t c d) rest))
        (more_stmts (branch line t (stmts_append a c) (stmts_append b d)) rest)
    appended rest cells n m fewer =
        subst (λ o. Refines in_place o (run_stmts s (more_stmts (branch line t (stmts_append a c) (stmts_append b d)) rest) cells m))
        (then_run-then_run (run_stmt s (branch line t a b) cells n) second (run_stmts s rest))
        (then_run-refines in_place (then_run (run_stmt s (branch line t a b) cells n) second)
        (run_stmt s (branch line t (stmts_append a c) (stmts_append b d)) cells m) (run_stmts s rest) (run_stmts s rest)
        (two_tests cells n m fewer) (same rest))

  -- ---- Tests that are decided

  -- an `if` by the same test, alone on one side
  module _ (line later : ℕ) (t : CondTree) (a x y : StmtTrees) where
    alone_decided : (c d : StmtTrees) (cells : Cells) (h : Bool) (k i : ℕ) → tested cells line t k ≡ gives h i → (n m : ℕ) → m ≤ n →
        Refines in_place (run_stmts s (more_stmts (branch later t c d) no_stmts) cells n) (chosen c d cells h m)
    alone_decided c d cells h k i first n m fewer =
        subst (λ o. Refines in_place o (chosen c d cells h m)) (sym ((sequences_run_in_order s cells n).alone (branch later t c d)))
        (decided cells later t c d h (λ j l g is. one_result cells t line later k j h g i l first is) n m fewer)

    else_decided : RefinesStmt in_place s s (branch line t a (more_stmts (branch later t y x) no_stmts)) (branch line t a x)
    else_decided cells n m fewer = by_test cells line t (chosen a (more_stmts (branch later t y x) no_stmts) cells) (chosen a x cells) n m fewer by
      where
        by : (h : Bool) (k i j : ℕ) → tested cells line t k ≡ gives h i → j ≤ i →
            Refines in_place (chosen a (more_stmts (branch later t y x) no_stmts) cells h i) (chosen a x cells h j)
        by true k i j is below = same a cells i j below
        by false k i j is below = alone_decided y x cells false k i is i j below

    then_decided : RefinesStmt in_place s s (branch line t (more_stmts (branch later t x y) no_stmts) a) (branch line t x a)
    then_decided cells n m fewer = by_test cells line t (chosen (more_stmts (branch later t x y) no_stmts) a cells) (chosen x a cells) n m fewer by
      where
        by : (h : Bool) (k i j : ℕ) → tested cells line t k ≡ gives h i → j ≤ i →
            Refines in_place (chosen (more_stmts (branch later t x y) no_stmts) a cells h i) (chosen x a cells h j)
        by true k i j is below = alone_decided x y cells true k i is i j below
        by false k i j is below = same a cells i j below

  -- ---- The definitions

  -- an `if` by the opposite of a test
  alone_turned : (line : ℕ) (t : CondTree) (a b rest : StmtTrees) →
      Refined (more_stmts (branch line (negated t) a b) rest) (more_stmts (branch line t b a) rest)
  alone_turned line t a b rest =
      more-refine in_place s s (branch line (negated t) a b) (branch line t b a) rest rest (turned line t a b) (same rest)

  abbrev else_is : ℕ → CondTree → StmtTrees → StmtTrees → StmtTrees → Type 0
  else_is line t a b c = RefinesStmt in_place s s (branch line t a b) (branch line t a c)

  opposite_else : (line later : ℕ) (t u : CondTree) (a x : StmtTrees) → (t ≡ negated u) ⊎ (u ≡ negated t) →
      else_is line t a (more_stmts (branch later u x no_stmts) no_stmts) x
  opposite_else line later t u a x (inl is) =
      subst (λ r. else_is line r a (more_stmts (branch later u x no_stmts) no_stmts) x) (sym is)
      (further_stmt (branch line (negated u) a inside) (branch line u inside a) (branch line (negated u) a x)
      (turned line u a inside)
      (further_stmt (branch line u inside a) (branch line u x a) (branch line (negated u) a x) (then_decided line later u a x no_stmts)
      (turned_back line u a x)))
    where
      inside : StmtTrees
      inside = more_stmts (branch later u x no_stmts) no_stmts
  opposite_else line later t u a x (inr is) =
      subst (λ r. else_is line t a (more_stmts (branch later r x no_stmts) no_stmts) x) (sym is)
      (further_stmt (branch line t a (more_stmts (branch later (negated t) x no_stmts) no_stmts))
      (branch line t a (more_stmts (branch later t no_stmts x) no_stmts)) (branch line t a x)
      (branches line t a (more_stmts (branch later (negated t) x no_stmts) no_stmts) a
      (more_stmts (branch later t no_stmts x) no_stmts) (same a) (alone_turned later t x no_stmts no_stmts))
      (else_decided line later t a x no_stmts))

  pub else-fails : (line : ℕ) (t : CondTree) (a b : StmtTrees) → else_is line t a b (where_fails t b)
  else-fails line t a (more_stmts (branch later u x no_stmts) no_stmts) =
      cond_both (opposite t u) x (more_stmts (branch later u x no_stmts) no_stmts)
      (else_is line t a (more_stmts (branch later u x no_stmts) no_stmts))
      (λ is. opposite_else line later t u a x (opposites t u is))
      (λ is. same_stmt (branch line t a (more_stmts (branch later u x no_stmts) no_stmts)))
  else-fails line t a b = same_stmt (branch line t a b)

  -- the branches of two as one, in either order
  one_test : (line later : ℕ) (t : CondTree) (a b c d xs ys rest : StmtTrees) → keep_test t a b ≡ true →
      Refined (stmts_append a c) xs → Refined (stmts_append b d) ys →
      Refined (more_stmts (branch line t a b) (more_stmts (branch later t c d) rest)) (more_stmts (branch line t xs ys) rest)
  one_test line later t a b c d xs ys rest keeps one other =
      let parts = and_parts (stmts_keep (cond_fields t) a) (stmts_keep (cond_fields t) b) keeps in
      further (more_stmts (branch line t a b) (more_stmts (branch later t c d) rest))
      (more_stmts (branch line t (stmts_append a c) (stmts_append b d)) rest) (more_stmts (branch line t xs ys) rest)
      (appended line later t a b c d parts.0 parts.1 rest)
      (more-refine in_place s s (branch line t (stmts_append a c) (stmts_append b d)) (branch line t xs ys) rest rest
      (branches line t (stmts_append a c) (stmts_append b d) xs ys one other) (same rest))

  second_opposite : (line later : ℕ) (t : CondTree) (a b c d xs ys rest : StmtTrees) → keep_test t a b ≡ true →
      Refined (stmts_append a d) xs → Refined (stmts_append b c) ys →
      Refined (more_stmts (branch line t a b) (more_stmts (branch later (negated t) c d) rest)) (more_stmts (branch line t xs ys) rest)
  second_opposite line later t a b c d xs ys rest keeps one other =
      further (more_stmts (branch line t a b) (more_stmts (branch later (negated t) c d) rest))
      (more_stmts (branch line t a b) (more_stmts (branch later t d c) rest)) (more_stmts (branch line t xs ys) rest)
      (more-refine in_place s s (branch line t a b) (branch line t a b) (more_stmts (branch later (negated t) c d) rest)
      (more_stmts (branch later t d c) rest) (same_stmt (branch line t a b)) (alone_turned later t c d rest))
      (one_test line later t a b d c xs ys rest keeps one other)

  first_opposite : (line later : ℕ) (u : CondTree) (a b c d xs ys rest : StmtTrees) → keep_test (negated u) a b ≡ true →
      Refined (stmts_append b c) xs → Refined (stmts_append a d) ys →
      Refined (more_stmts (branch line (negated u) a b) (more_stmts (branch later u c d) rest)) (more_stmts (branch line u xs ys) rest)
  first_opposite line later u a b c d xs ys rest keeps one other =
      let parts = and_parts (stmts_keep (cond_fields u) a) (stmts_keep (cond_fields u) b) keeps in
      further (more_stmts (branch line (negated u) a b) (more_stmts (branch later u c d) rest))
      (more_stmts (branch line u b a) (more_stmts (branch later u c d) rest)) (more_stmts (branch line u xs ys) rest)
      (alone_turned line u a b (more_stmts (branch later u c d) rest))
      (one_test line later u b a c d xs ys rest
      (and_from (stmts_keep (cond_fields u) b) (stmts_keep (cond_fields u) a) parts.1 parts.0) one other)

  -- two neighbours, from what becomes of their branches
  neighbours : (line later : ℕ) (test other : CondTree) (a b c d rest : StmtTrees) →
      ((ys : StmtTrees) → Refined (stmts_append a ys) (joined a ys)) → ((ys : StmtTrees) → Refined (stmts_append b ys) (joined b ys)) →
      Refined (more_stmts (branch line test a b) (more_stmts (branch later other c d) rest))
      (put_before (branch line test a b) (more_stmts (branch later other c d) rest))
  neighbours line later test other a b c d rest yes_joins no_joins =
      cond_both (keep_test test a b && same_cond test other) straight crossed_or Below
      (λ is. let parts = and_parts (keep_test test a b) (same_cond test other) is in
      subst (λ r. Refined (more_stmts (branch line test a b) (more_stmts (branch later r c d) rest)) straight)
      (same-cond test other parts.1)
      (one_test line later test a b c d (joined a c) (joined b d) rest parts.0 (yes_joins c) (no_joins d)))
      (λ differ. cond_both (keep_test test a b && is_not_of other test) crossed turned_or Below
      (λ is. let parts = and_parts (keep_test test a b) (is_not_of other test) is in
      subst (λ r. Refined (more_stmts (branch line test a b) (more_stmts (branch later r c d) rest)) crossed)
      (sym (not-of other test parts.1))
      (second_opposite line later test a b c d (joined a d) (joined b c) rest parts.0 (yes_joins d) (no_joins c)))
      (λ unlike. cond_both (keep_test test a b && is_not_of test other) turned_first apart Below
      (λ is. let parts = and_parts (keep_test test a b) (is_not_of test other) is in
      let opposite_first = not-of test other parts.1 in
      subst (λ r. Refined (more_stmts (branch line r a b) (more_stmts (branch later other c d) rest)) turned_first)
      (sym opposite_first)
      (first_opposite line later other a b c d (joined b c) (joined a d) rest
      (ap (λ r. keep_test r a b) (sym opposite_first) ∙ parts.0) (no_joins c) (yes_joins d)))
      (λ nothing. same apart)))
    where
      apart : StmtTrees
      apart = more_stmts (branch line test a b) (more_stmts (branch later other c d) rest)

      straight : StmtTrees
      straight = more_stmts (branch line test (joined a c) (joined b d)) rest

      crossed : StmtTrees
      crossed = more_stmts (branch line test (joined a d) (joined b c)) rest

      turned_first : StmtTrees
      turned_first = more_stmts (branch line other (joined b c) (joined a d)) rest

      turned_or : StmtTrees
      turned_or = if keep_test test a b && is_not_of test other then turned_first else apart

      crossed_or : StmtTrees
      crossed_or = if keep_test test a b && is_not_of other test then crossed else turned_or

      Below : StmtTrees → Type 0
      Below ys = Refined apart ys

  mutual
    pub placed-before : (x : StmtTree) (xs : StmtTrees) → Refined (more_stmts x xs) (put_before x xs)
    placed-before (branch line test a b) (more_stmts (branch later other c d) rest) =
        neighbours line later test other a b c d rest (joins a) (joins b)
    placed-before x xs = same (more_stmts x xs)

    pub joins : (xs ys : StmtTrees) → Refined (stmts_append xs ys) (joined xs ys)
    joins no_stmts ys = same ys
    joins (more_stmts x xs) ys =
        further (more_stmts x (stmts_append xs ys)) (more_stmts x (joined xs ys)) (put_before x (joined xs ys))
        (more-refine in_place s s x x (stmts_append xs ys) (joined xs ys) (same_stmt x) (joins xs ys)) (placed-before x (joined xs ys))
