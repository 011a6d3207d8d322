-- Each pure function of a pruned program is called.
use Rattle.std.specs.Prelude.{◌≡◌, ℕ, zero, suc, ◌+◌, ◌<◌, ◌≤◌, ◌==◌, ◌||◌, Bool, true, false, List, [], ◌∷◌, ◌++◌, map, length, if◌then◌else◌}
use Rattle.std.proofs.Common.{refl, sym, ap, ap₂, subst, ◌∙◌, arith, ◌⊎◌, inl, inr}
use Rattle.std.proofs.lemmas.Bool.Decides.{nat_tests}
use Rattle.std.proofs.lemmas.List.{length-map, map-append}
use Rattle.c_syntax.specs.Tree.{ExprTree, literal, neg, read, binary, pick, pure, item, ExprTrees, no_exprs, more_exprs, CondTree, compare, both, either, negated, StmtTree, assign, assign_at, branch, call, StmtTrees, no_stmts, more_stmts, PureTree, ProcedureTree, ProgramTree}
use Rattle.c_syntax.specs.Lawful.{stmt_without_lines, stmts_without_lines, pure_without_lines, procedure_without_lines, without_lines}
use Rattle.emit_pruned.specs.Calls.{expr_functions, exprs_functions, cond_functions, stmt_functions, stmts_functions, procedures_functions, pures_functions, called_functions}
use Rattle.emit_pruned.specs.Needed.{has_number, needed_from, is_needed}
use Rattle.emit_pruned.specs.Pruned.{renumbered_expr, renumbered_exprs, renumbered_cond, renumbered_stmt, renumbered_stmts, renumbered_pure, renumbered_procedure, kept_before, kept_from, pruned}
use Rattle.emit_pruned.specs.Laws.{PrunedHasNoneIdle, CallsMeanNoLines}
use Rattle.emit_pruned.proofs.lemmas.Numbers.{has-left, has-right, contains}
use Rattle.emit_pruned.proofs.KeptFunctions.{kept-next, dropped-next}
use Rattle.emit_pruned.proofs.Closed.{needed-is, is-needed}

-- ---- Calls by other positions

module _ (place : ℕ → ℕ) where
  -- what two parts call
  two : (xs ys vs ws : List ℕ) → vs ≡ map place xs → ws ≡ map place ys → vs ++ ws ≡ map place (xs ++ ys)
  two xs ys vs ws one other = ap₂ ◌++◌ one other ∙ sym (map-append place xs ys)

  mutual
    expr-calls : (e : ExprTree) → expr_functions (renumbered_expr place e) ≡ map place (expr_functions e)
    expr-calls (literal value) = refl
    expr-calls (neg e) = expr-calls e
    expr-calls (read leaf) = refl
    expr-calls (binary op a b) = two (expr_functions a) (expr_functions b) _ _ (expr-calls a) (expr-calls b)
    expr-calls (pick test a b) =
        two (cond_functions test ++ expr_functions a) (expr_functions b) _ _
        (two (cond_functions test) (expr_functions a) _ _ (cond-calls test) (expr-calls a)) (expr-calls b)
    expr-calls (pure k es) = ap (λ ks. place k ∷ ks) (exprs-calls es)
    expr-calls (item f index) = expr-calls index

    exprs-calls : (es : ExprTrees) → exprs_functions (renumbered_exprs place es) ≡ map place (exprs_functions es)
    exprs-calls no_exprs = refl
    exprs-calls (more_exprs e es) = two (expr_functions e) (exprs_functions es) _ _ (expr-calls e) (exprs-calls es)

    cond-calls : (c : CondTree) → cond_functions (renumbered_cond place c) ≡ map place (cond_functions c)
    cond-calls (compare how a b) = two (expr_functions a) (expr_functions b) _ _ (expr-calls a) (expr-calls b)
    cond-calls (both a b) = two (cond_functions a) (cond_functions b) _ _ (cond-calls a) (cond-calls b)
    cond-calls (either a b) = two (cond_functions a) (cond_functions b) _ _ (cond-calls a) (cond-calls b)
    cond-calls (negated a) = cond-calls a

  mutual
    stmt-calls : (x : StmtTree) → stmt_functions (renumbered_stmt place x) ≡ map place (stmt_functions x)
    stmt-calls (assign line f e) = expr-calls e
    stmt-calls (assign_at line f index e) = two (expr_functions index) (expr_functions e) _ _ (expr-calls index) (expr-calls e)
    stmt-calls (branch line test on_true on_false) =
        two (cond_functions test ++ stmts_functions on_true) (stmts_functions on_false) _ _
        (two (cond_functions test) (stmts_functions on_true) _ _ (cond-calls test) (stmts-calls on_true)) (stmts-calls on_false)
    stmt-calls (call line k target es) = exprs-calls es

    stmts-calls : (xs : StmtTrees) → stmts_functions (renumbered_stmts place xs) ≡ map place (stmts_functions xs)
    stmts-calls no_stmts = refl
    stmts-calls (more_stmts x xs) = two (stmt_functions x) (stmts_functions xs) _ _ (stmt-calls x) (stmts-calls xs)

  procedures-calls : (qs : List ProcedureTree) →
      procedures_functions (map (renumbered_procedure place) qs) ≡ map place (procedures_functions qs)
  procedures-calls [] = refl
  procedures-calls (q ∷ qs) = two (stmts_functions q.body) (procedures_functions qs) _ _ (stmts-calls q.body) (procedures-calls qs)

  -- what is called at a position is called at its place
  moved-has : (xs : List ℕ) (k : ℕ) → has_number xs k ≡ true → has_number (map place xs) (place k) ≡ true
  moved-has [] k h = absurd (let wrong : ⊥ = cc h in wrong)
  moved-has (x ∷ xs) k h = by (x == k) refl h (moved-has xs k)
    where
      behind : (b : Bool) → has_number (map place xs) (place k) ≡ true → (b || has_number (map place xs) (place k)) ≡ true
      behind true e = refl
      behind false e = e

      same : (j : ℕ) → (j == j) ≡ true
      same j = grind (arith, nat_tests)

      by : (b : Bool) → (x == k) ≡ b → (b || has_number xs k) ≡ true →
          (has_number xs k ≡ true → has_number (map place xs) (place k) ≡ true) →
          (place x == place k || has_number (map place xs) (place k)) ≡ true
      by true e is next =
          let equal : x ≡ k = grind (arith, nat_tests) in
          ap (λ j. place x == place j || has_number (map place xs) (place k)) (sym equal)
          ∙ ap (λ b. b || has_number (map place xs) (place k)) (same (place x))
      by false e is next = behind (place x == place k) (next is)

-- ---- What is needed is called

has-either : (xs ys : List ℕ) (k : ℕ) → has_number (xs ++ ys) k ≡ true → (has_number xs k ≡ true) ⊎ (has_number ys k ≡ true)
has-either [] ys k h = inr h
has-either (x ∷ xs) ys k h = by (x == k) h (has-either xs ys k)
  where
    by : (b : Bool) → (b || has_number (xs ++ ys) k) ≡ true →
        (has_number (xs ++ ys) k ≡ true → (has_number xs k ≡ true) ⊎ (has_number ys k ≡ true)) →
        ((b || has_number xs k) ≡ true) ⊎ (has_number ys k ≡ true)
    by true e next = inl refl
    by false e next = next e

module _ (keeps : ℕ → Bool) where
  abbrev kept_pures : ℕ → List PureTree → List PureTree
  kept_pures n fs = map (renumbered_pure (kept_before keeps)) (kept_from keeps n fs)

  -- what the later ones that are kept call
  later-calls : (f : PureTree) (fs : List PureTree) (n k : ℕ) → has_number (pures_functions (kept_pures (suc n) fs)) k ≡ true →
      has_number (pures_functions (kept_pures n (f ∷ fs))) k ≡ true
  later-calls f fs n k h = by (keeps n)
    where
      by : (b : Bool) →
          has_number (pures_functions
          (map (renumbered_pure (kept_before keeps)) ((if b then f ∷ [] else []) ++ kept_from keeps (suc n) fs)))
          k
          ≡ true
      by true = has-right (expr_functions (renumbered_expr (kept_before keeps) f.body)) (pures_functions (kept_pures (suc n) fs)) k h
      by false = h

  -- what a kept one calls
  own-calls : (f : PureTree) (fs : List PureTree) (n k : ℕ) → keeps n ≡ true → has_number (expr_functions f.body) k ≡ true →
      has_number (pures_functions (kept_pures n (f ∷ fs))) (kept_before keeps k) ≡ true
  own-calls f fs n k is h = by (keeps n) is
    where
      place : ℕ → ℕ
      place = kept_before keeps

      by : (b : Bool) → b ≡ true →
          has_number (pures_functions
          (map (renumbered_pure (kept_before keeps)) ((if b then f ∷ [] else []) ++ kept_from keeps (suc n) fs)))
          (kept_before keeps k)
          ≡ true
      by true e =
          has-left (expr_functions (renumbered_expr (kept_before keeps) f.body)) (pures_functions (kept_pures (suc n) fs))
          (kept_before keeps k)
          (ap (λ xs. has_number xs (kept_before keeps k)) (expr-calls (kept_before keeps) f.body)
          ∙ moved-has (kept_before keeps) (expr_functions f.body) k h)
      by false e = absurd (let wrong : ⊥ = cc e in wrong)

  -- What is needed is called by later code, or by one of the functions that are kept, where all that is needed is kept.
  needed-called : (later : List ℕ) (fs : List PureTree) (n k : ℕ) →
      ((j : ℕ) → has_number (needed_from later n fs) j ≡ true → j < n + length fs → keeps j ≡ true) →
      has_number (needed_from later n fs) k ≡ true →
      (has_number later k ≡ true) ⊎ (has_number (pures_functions (kept_pures n fs)) (kept_before keeps k) ≡ true)
  needed-called later [] n k kept h = inl h
  needed-called later (f ∷ fs) n k kept h =
      by (has-either rest added k h) (needed-called later fs (suc n) k (λ j has below. kept j (has-left rest added j has) (omega arith)))
    where
      rest : List ℕ
      rest = needed_from later (suc n) fs

      added : List ℕ
      added = if has_number rest n then expr_functions f.body else []

      own : (b : Bool) → has_number rest n ≡ b → has_number (if b then expr_functions f.body else []) k ≡ true →
          has_number (pures_functions (kept_pures n (f ∷ fs))) (kept_before keeps k) ≡ true
      own true is has = own-calls f fs n k (kept n (has-left rest added n is) (omega arith)) has
      own false is has = absurd (let wrong : ⊥ = cc has in wrong)

      by : (has_number rest k ≡ true) ⊎ (has_number added k ≡ true) →
          (has_number rest k ≡ true →
          (has_number later k ≡ true) ⊎ (has_number (pures_functions (kept_pures (suc n) fs)) (kept_before keeps k) ≡ true)) →
          (has_number later k ≡ true) ⊎ (has_number (pures_functions (kept_pures n (f ∷ fs))) (kept_before keeps k) ≡ true)
      by (inl in_rest) next = through (next in_rest)
        where
          through : (has_number later k ≡ true) ⊎ (has_number (pures_functions (kept_pures (suc n) fs)) (kept_before keeps k) ≡ true) →
              (has_number later k ≡ true) ⊎ (has_number (pures_functions (kept_pures n (f ∷ fs))) (kept_before keeps k) ≡ true)
          through (inl a) = inl a
          through (inr b) = inr (later-calls f fs n (kept_before keeps k) b)
      by (inr in_added) next = inr (own (has_number rest n) refl in_added)

  -- a function that is kept, and its place
  record HasPlace (n count j : ℕ) : Type 0 where
    position : ℕ
    below : position < n + count
    kept : keeps position ≡ true
    place : kept_before keeps position ≡ kept_before keeps n + j

  -- each place is that of one that is kept
  places : (fs : List PureTree) (n j : ℕ) → j < length (kept_from keeps n fs) → HasPlace n (length fs) j
  places [] n j h = absurd (omega arith)
  places (f ∷ fs) n j h = by (keeps n) refl j h (places fs (suc n))
    where
      by : (b : Bool) → keeps n ≡ b → (i : ℕ) → i < length ((if b then f ∷ [] else []) ++ kept_from keeps (suc n) fs) →
          ((m : ℕ) → m < length (kept_from keeps (suc n) fs) → HasPlace (suc n) (length fs) m) → HasPlace n (suc (length fs)) i
      by true is zero below next = record { position = n; below = omega arith; kept = is; place = omega arith }
      by true is (suc i) below next =
          let found = next i (omega arith) in
          let one = kept-next keeps n is in
          let inside = found.below in
          let there = found.place in record { position = found.position; below = omega arith; kept = found.kept; place = omega arith }
      by false is i below next =
          let found = next i below in
          let none = dropped-next keeps n is in
          let inside = found.below in
          let there = found.place in record { position = found.position; below = omega arith; kept = found.kept; place = omega arith }

pub pruned_has_none_idle : PrunedHasNoneIdle
pruned_has_none_idle p lawful j h =
    let keeps = is_needed p in
    let place = kept_before keeps in
    let found = places keeps p.pures 0 j (subst (λ n. j < n) (length-map (kept_from keeps 0 p.pures) (renumbered_pure place)) h) in
    let k = found.position in
    let at : place k ≡ j = let there = found.place in omega arith in
    let calls = procedures_functions p.procedures in
    let moved = procedures_functions (pruned p).procedures in
    let others = pures_functions (pruned p).pures in
    let by : (has_number calls k ≡ true) ⊎ (has_number others (place k) ≡ true) → has_number (moved ++ others) (place k) ≡ true =
    (λ either_way. elim either_way [
      | inl called ↦
          has-left moved others (place k)
          (ap (λ xs. has_number xs (place k)) (procedures-calls place p.procedures) ∙ moved-has place calls k called)
      | inr called ↦ has-right moved others (place k) called
    ]) in
    contains (moved ++ others) j
    (subst (λ m. has_number (moved ++ others) m ≡ true) at
    (by (needed-called keeps calls p.pures 0 k (λ i has below. needed-is p i has (omega arith)) (is-needed p k found.kept))))

-- ---- Lines

mutual
  stmt-aside : (x : StmtTree) → stmt_functions (stmt_without_lines x) ≡ stmt_functions x
  stmt-aside (assign line f e) = refl
  stmt-aside (assign_at line f index e) = refl
  stmt-aside (branch line test on_true on_false) = λ i. cond_functions test ++ stmts-aside on_true i ++ stmts-aside on_false i
  stmt-aside (call line k target es) = refl

  stmts-aside : (xs : StmtTrees) → stmts_functions (stmts_without_lines xs) ≡ stmts_functions xs
  stmts-aside no_stmts = refl
  stmts-aside (more_stmts x xs) = ap₂ ◌++◌ (stmt-aside x) (stmts-aside xs)

procedures-aside : (qs : List ProcedureTree) → procedures_functions (map procedure_without_lines qs) ≡ procedures_functions qs
procedures-aside [] = refl
procedures-aside (q ∷ qs) = ap₂ ◌++◌ (stmts-aside q.body) (procedures-aside qs)

pures-aside : (fs : List PureTree) → pures_functions (map pure_without_lines fs) ≡ pures_functions fs
pures-aside [] = refl
pures-aside (f ∷ fs) = ap (λ ks. expr_functions f.body ++ ks) (pures-aside fs)

called-aside : (p : ProgramTree) → called_functions (without_lines p) ≡ called_functions p
called-aside p = ap₂ ◌++◌ (procedures-aside p.procedures) (pures-aside p.pures)

pub calls_mean_no_lines : CallsMeanNoLines
calls_mean_no_lines p q same idle k below =
    let counts : length p.pures ≡ length q.pures =
    sym (length-map p.pures pure_without_lines) ∙ ap (λ (x : ProgramTree). length x.pures) same ∙ length-map q.pures pure_without_lines in
    subst (λ ks. Rattle.std.specs.Prelude.Contains ks k) (sym (called-aside p) ∙ ap called_functions same ∙ called-aside q)
    (idle k (omega arith))
