-- What a program needs is all that is called in it.
use Rattle.std.specs.Prelude.{◌≡◌, ℕ, zero, suc, ◌+◌, ◌<◌, ◌≤◌, ◌&&◌, nat_lt, ◌==◌, Bool, true, false, List, [], ◌∷◌, ◌++◌, length, if◌then◌else◌, Some, slice_get}
use Rattle.std.specs.List.{AllByRecursion}
use Rattle.std.proofs.Common.{refl, ap, subst, ◌∙◌, arith}
use Rattle.std.proofs.lemmas.Bool.Decides.{nat_tests}
use Rattle.std.proofs.lemmas.List.{length-append}
use Rattle.std.proofs.lemmas.Option.{slice_get_within}
use Rattle.c_syntax.specs.Tree.{ExprTree, literal, neg, read, binary, pick, pure, item, ExprTrees, no_exprs, more_exprs, CondTree, compare, both, either, negated, StmtTree, assign, assign_at, branch, call, StmtTrees, no_stmts, more_stmts, PureTree, StructTree, ProcedureTree, ProgramTree}
use Rattle.c_syntax.specs.Lawful.{Reach, IsLawfulExpr, AreLawfulExprs, IsLawfulCond, IsLawfulStmt, AreLawfulStmts, ArePures, AreProcedures, IsLawful}
use Rattle.emit_pruned.specs.Calls.{expr_functions, exprs_functions, cond_functions, stmt_functions, stmts_functions, procedures_functions}
use Rattle.emit_pruned.specs.Needed.{has_number, needed_from, needed, is_needed}
use Rattle.emit_pruned.proofs.lemmas.Numbers.{all-both, each-then, each-both, has-left, has-right, has-first, each-has}
use Rattle.emit_pruned.proofs.KeptFunctions.{IsClosed, AreClosed}
use Rattle.emit_pruned.proofs.RunsAlike.{KeepsCalled}

-- ---- Lawful code calls functions that there are

module _ (reach : Reach) where
  abbrev Inside : ℕ → Type 0
  Inside j = j < length reach.pures

  mutual
    pub expr-inside : (e : ExprTree) → IsLawfulExpr reach e → AllByRecursion Inside (expr_functions e)
    expr-inside (literal value) h = tt
    expr-inside (neg e) h = expr-inside e h
    expr-inside (read leaf) h = tt
    expr-inside (binary op a b) h = all-both Inside (expr_functions a) (expr_functions b) (expr-inside a h.0) (expr-inside b h.1)
    expr-inside (pick test a b) h =
        all-both Inside (cond_functions test ++ expr_functions a) (expr_functions b)
        (all-both Inside (cond_functions test) (expr_functions a) (cond-inside test h.0) (expr-inside a h.1)) (expr-inside b h.2)
    expr-inside (pure k es) (f, there, count, lawful) = (slice_get_within reach.pures k f there, exprs-inside es lawful)
    expr-inside (item field index) h = expr-inside index h.1

    pub exprs-inside : (es : ExprTrees) → AreLawfulExprs reach es → AllByRecursion Inside (exprs_functions es)
    exprs-inside no_exprs h = tt
    exprs-inside (more_exprs e es) h = all-both Inside (expr_functions e) (exprs_functions es) (expr-inside e h.0) (exprs-inside es h.1)

    pub cond-inside : (c : CondTree) → IsLawfulCond reach c → AllByRecursion Inside (cond_functions c)
    cond-inside (compare how a b) h = all-both Inside (expr_functions a) (expr_functions b) (expr-inside a h.0) (expr-inside b h.1)
    cond-inside (both a b) h = all-both Inside (cond_functions a) (cond_functions b) (cond-inside a h.0) (cond-inside b h.1)
    cond-inside (either a b) h = all-both Inside (cond_functions a) (cond_functions b) (cond-inside a h.0) (cond-inside b h.1)
    cond-inside (negated a) h = cond-inside a h

  mutual
    pub stmt-inside : (x : StmtTree) → IsLawfulStmt reach x → AllByRecursion Inside (stmt_functions x)
    stmt-inside (assign line f e) h = expr-inside e h.1
    stmt-inside (assign_at line f index e) h =
        all-both Inside (expr_functions index) (expr_functions e) (expr-inside index h.1) (expr-inside e h.2)
    stmt-inside (branch line test on_true on_false) h =
        all-both Inside (cond_functions test ++ stmts_functions on_true) (stmts_functions on_false)
        (all-both Inside (cond_functions test) (stmts_functions on_true) (cond-inside test h.0) (stmts-inside on_true h.1))
        (stmts-inside on_false h.2)
    stmt-inside (call line k target es) (q, there, of, count, lawful) = exprs-inside es lawful

    pub stmts-inside : (xs : StmtTrees) → AreLawfulStmts reach xs → AllByRecursion Inside (stmts_functions xs)
    stmts-inside no_stmts h = tt
    stmts-inside (more_stmts x xs) h = all-both Inside (stmt_functions x) (stmts_functions xs) (stmt-inside x h.0) (stmts-inside xs h.1)

pub procedures-inside : (pures : List PureTree) (structs : List StructTree) (earlier qs : List ProcedureTree) →
    AreProcedures pures structs earlier qs →
    AllByRecursion (λ j. j < length pures) (procedures_functions qs)
procedures-inside pures structs earlier [] h = tt
procedures-inside pures structs earlier (q ∷ qs) h =
    all-both (λ j. j < length pures) (stmts_functions q.body) (procedures_functions qs) (stmts-inside _ q.body h.0.body)
    (procedures-inside pures structs (earlier ++ q ∷ []) qs h.1)

-- each function of a list calls those before it
abbrev pub CallBefore : ℕ → List PureTree → Type 0
CallBefore n [] = Rattle.std.specs.Prelude.⊤
CallBefore n (f ∷ fs) = AllByRecursion (λ j. j < n) (expr_functions f.body) × CallBefore (suc n) fs

pub pures-before : (earlier fs : List PureTree) (n : ℕ) → length earlier ≡ n → ArePures earlier fs → CallBefore n fs
pures-before earlier [] n count h = tt
pures-before earlier (f ∷ fs) n count h = (
  subst (λ m. AllByRecursion (λ j. j < m) (expr_functions f.body)) count (expr-inside _ f.body h.0.body),
  pures-before (earlier ++ f ∷ []) fs (suc n) (omega (arith, length-append earlier (f ∷ []))) h.1,
)

-- ---- What is called is needed

-- of what is called by later code all is called from anywhere
pub later-needed : (later : List ℕ) (fs : List PureTree) (n k : ℕ) → has_number later k ≡ true →
    has_number (needed_from later n fs) k ≡ true
later-needed later [] n k h = h
later-needed later (f ∷ fs) n k h =
    let rest = needed_from later (suc n) fs in
    has-left rest (if has_number rest n then expr_functions f.body else []) k (later-needed later fs (suc n) k h)

module _ (keeps : ℕ → Bool) where
  -- Each function from n on is closed, where all that is needed is kept, and nothing at or after n that isn't called by later code.
  pub needed-closed : (later : List ℕ) (fs : List PureTree) (n : ℕ) → CallBefore n fs →
      ((k : ℕ) → has_number (needed_from later n fs) k ≡ true → k < n + length fs → keeps k ≡ true) →
      ((k : ℕ) → n ≤ k → keeps k ≡ true → has_number (needed_from later n fs) k ≡ true) →
      AreClosed keeps n fs
  needed-closed later [] n before kept called = tt
  needed-closed later (f ∷ fs) n before kept called = (
    closed,
    needed-closed later fs (suc n) before.1 (λ k has below. kept k (has-left rest added k has) (omega arith)) behind,
  )
    where
      rest : List ℕ
      rest = needed_from later (suc n) fs

      added : List ℕ
      added = if has_number rest n then expr_functions f.body else []

      apart : (k : ℕ) → n ≤ k → (b : Bool) → AllByRecursion (λ j. (j == k) ≡ false) (if b then expr_functions f.body else [])
      apart k after true =
          each-then (λ j. j < n) (λ j. (j == k) ≡ false) (expr_functions f.body) (λ j less. grind (arith, nat_tests)) before.0
      apart k after false = tt

      behind : (k : ℕ) → suc n ≤ k → keeps k ≡ true → has_number rest k ≡ true
      behind k after is = has-first rest added k (called k (omega arith) is) (apart k (omega arith) (has_number rest n))

      closed : IsClosed keeps n f
      closed is =
          let here = has-first rest added n (called n (omega arith) is) (apart n (omega arith) (has_number rest n)) in
          let all : added ≡ expr_functions f.body = ap (λ b. if b then expr_functions f.body else []) here in
          each-both (λ j. j < n) (λ j. keeps j ≡ true) (expr_functions f.body) before.0
          (each-then (λ j. (has_number (expr_functions f.body) j ≡ true) × (j < n)) (λ j. keeps j ≡ true) (expr_functions f.body)
          (λ j called_here. kept j (has-right rest added j (ap (λ xs. has_number xs j) all ∙ called_here.0))
          (let less = called_here.1 in omega arith))
          (each-both (λ j. has_number (expr_functions f.body) j ≡ true) (λ j. j < n) (expr_functions f.body)
          (each-has (expr_functions f.body)) before.0))

-- ---- A lawful program

pub needed-is : (p : ProgramTree) (k : ℕ) → has_number (needed p) k ≡ true → k < length p.pures → is_needed p k ≡ true
needed-is p k has below = ap (λ b. nat_lt k (length p.pures) && b) has ∙ less (nat_lt k (length p.pures)) refl
  where
    less : (b : Bool) → nat_lt k (length p.pures) ≡ b → (b && true) ≡ true
    less true e = refl
    less false e = absurd (grind (arith, nat_tests))

pub is-needed : (p : ProgramTree) (k : ℕ) → is_needed p k ≡ true → has_number (needed p) k ≡ true
is-needed p k is = by (nat_lt k (length p.pures)) is
  where
    by : (b : Bool) → (b && has_number (needed p) k) ≡ true → has_number (needed p) k ≡ true
    by true e = e
    by false e = absurd (let wrong : ⊥ = cc e in wrong)

pub lawful-keeps : (p : ProgramTree) → IsLawful p → KeepsCalled (is_needed p) p
lawful-keeps p h = record {
  pures = needed-closed (is_needed p) (procedures_functions p.procedures) p.pures 0 (pures-before [] p.pures 0 refl h.pures)
      (λ k has below. needed-is p k has (omega arith)) (λ k after is. is-needed p k is);
  procedures =
      let calls = procedures_functions p.procedures in
      let inside = procedures-inside p.pures p.structs [] p.procedures h.procedures in
      each-both (λ j. j < length p.pures) (λ j. is_needed p j ≡ true) calls inside
      (each-then (λ j. (has_number calls j ≡ true) × (j < length p.pures)) (λ j. is_needed p j ≡ true) calls
      (λ j called. needed-is p j (later-needed calls p.pures 0 j called.0) called.1)
      (each-both (λ j. has_number calls j ≡ true) (λ j. j < length p.pures) calls (each-has calls) inside));
}
