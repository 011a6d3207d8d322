-- Which procedures are called beside the helpers whose bodies go where they are called: only those that stay.
use Rattle.std.specs.Prelude.{◌≡◌, ℕ, zero, suc, ◌+◌, ◌≤◌, ◌==◌, not, Bool, true, false, ◌&&◌, ◌||◌, if◌then◌else◌, List, [], ◌∷◌, ◌++◌, flat_map, count_by, Option, Some, None, option_map, unwrap_or, slice_get}
use Rattle.std.specs.List.{AllByRecursion}
use Rattle.std.proofs.Common.{cond, refl, sym, ap, subst, ◌∙◌, arith, zero-add}
use Rattle.std.proofs.lemmas.Bool.{and_parts}
use Rattle.std.proofs.lemmas.Bool.Decides.{nat_tests}
use Rattle.std.proofs.lemmas.List.Sums.{sum_by-append}
use Rattle.c_syntax.specs.declared.code.Target.TheVariants.{Own, Child}
use Rattle.c_syntax.specs.Tree.{ExprTrees, StmtTree, assign, assign_at, branch, call, StmtTrees, no_stmts, more_stmts, ProcedureTree, ProgramTree}
use Rattle.c_semantics.specs.Machine.{is_interface}
use Rattle.emit_pruned.specs.Needed.{has_number}
use Rattle.emit_pruned.proofs.lemmas.Numbers.{all-parts, all-whole}
use Rattle.emit_inlined.specs.Inlined.{stmt_calls, stmts_calls, call_count, procedure_at, is_root_name, is_helper, params_of, helper_call, helpers_in, inlined_helpers, stays}

-- ---- A call of a helper

-- a statement calls a helper on `s` with these parameters of the caller
pub record CallsHelper (p : ProgramTree) (s : StmtTree) (found : ℕ × List ℕ) : Type 0 where
  pub line : ℕ
  pub values : ExprTrees
  pub is : s ≡ call line found.0 Own values
  pub helper : is_helper p found.0 ≡ true
  pub params : params_of values ≡ Some found.1

pub helper_call-found : (p : ProgramTree) (s : StmtTree) (found : ℕ × List ℕ) → helper_call p s ≡ Some found → CallsHelper p s found
helper_call-found p (assign line f e) found h = absurd (let wrong : ⊥ = cc h in wrong)
helper_call-found p (assign_at line f index e) found h = absurd (let wrong : ⊥ = cc h in wrong)
helper_call-found p (branch line test on_true on_false) found h = absurd (let wrong : ⊥ = cc h in wrong)
helper_call-found p (call line k (Child f) values) found h = absurd (let wrong : ⊥ = cc h in wrong)
helper_call-found p (call line k Own values) found h = by (is_helper p k) refl (params_of values) refl h
  where
    by : (b : Bool) → is_helper p k ≡ b → (o : Option (List ℕ)) → params_of values ≡ o →
        (if b then option_map (λ ks. (k, ks)) o else None) ≡ Some found → CallsHelper p (call line k Own values) found
    by true helper (Some ks) params e =
        let same : (k, ks) ≡ found = ap (λ o. unwrap_or o (k, ks)) e in
        subst (CallsHelper p (call line k Own values)) same
        (record { line = line; values = values; is = refl; helper = helper; params = params })
    by true helper None params e = absurd (let wrong : ⊥ = cc e in wrong)
    by false helper o params e = absurd (let wrong : ⊥ = cc e in wrong)

-- what statements call beside the helpers whose bodies go there
abbrev pub others_in : ProgramTree → StmtTrees → List ℕ
others_in p no_stmts = []
others_in p (more_stmts s ss) = elim (helper_call p s) [ Some found ↦ others_in p ss | None ↦ stmt_calls s ++ others_in p ss ]

-- the helpers whose bodies go into a procedure
abbrev helpers_of : ProgramTree → ProcedureTree → List ℕ
helpers_of p q = if is_interface q.name then helpers_in p q.body else []

-- what a procedure calls beside those
abbrev pub remaining : ProgramTree → ProcedureTree → List ℕ
remaining p q = if is_interface q.name then others_in p q.body else stmts_calls q.body

-- ---- Sums

sums-first : (total rest one all helpers others : ℕ) → total ≡ one + rest → rest ≡ helpers + others → all ≡ one + helpers →
    total ≡ all + others
sums-first total rest one all helpers others e d f = omega (arith, e, d, f)

sums-second : (total rest own all helpers others : ℕ) → total ≡ own + rest → rest ≡ helpers + others → all ≡ own + others →
    total ≡ helpers + all
sums-second total rest own all helpers others e d f = omega (arith, e, d, f)

sums-both : (total one rest helpers h hs others o os : ℕ) → total ≡ one + rest → one ≡ h + o → rest ≡ hs + os → helpers ≡ h + hs →
    others ≡ o + os → total ≡ helpers + others
sums-both total one rest helpers h hs others o os e d f g i = omega (arith, e, d, f, g, i)

-- ---- How often a procedure is called

module _ (k : ℕ) where
  -- how many of these numbers are k
  abbrev pub count_of : List ℕ → ℕ
  count_of ks = count_by (λ j. j == k) ks

  -- 1 for k itself
  abbrev one_of : ℕ → ℕ
  one_of j = cond (j == k) 1 0

  count-append : (xs ys : List ℕ) → count_of (xs ++ ys) ≡ count_of xs + count_of ys
  count-append xs ys = sum_by-append one_of xs ys

  pub count-more : (j : ℕ) (xs : List ℕ) → count_of (j ∷ xs) ≡ one_of j + count_of xs
  count-more j xs = sum_by-append one_of (j ∷ []) xs ∙ ap (λ n. n + count_of xs) (zero-add (one_of j))

  counted : (p : ProgramTree) (ss : StmtTrees) → count_of (stmts_calls ss) ≡ count_of (helpers_in p ss) + count_of (others_in p ss)
  counted p no_stmts = refl
  counted p (more_stmts s ss) = by (helper_call p s) refl (counted p ss)
    where
      by : (o : Option (ℕ × List ℕ)) → helper_call p s ≡ o →
          count_of (stmts_calls ss) ≡ count_of (helpers_in p ss) + count_of (others_in p ss) →
          count_of (stmt_calls s ++ stmts_calls ss)
          ≡ count_of (elim o [ Some found ↦ found.0 ∷ helpers_in p ss | None ↦ helpers_in p ss ])
          + count_of (elim o [ Some found ↦ others_in p ss | None ↦ stmt_calls s ++ others_in p ss ])
      by (Some found) is rest =
          sums-first (count_of (stmt_calls s ++ stmts_calls ss)) (count_of (stmts_calls ss)) (one_of found.0)
          (count_of (found.0 ∷ helpers_in p ss)) (count_of (helpers_in p ss)) (count_of (others_in p ss))
          (ap (λ x. count_of (stmt_calls x ++ stmts_calls ss)) (helper_call-found p s found is).is ∙ count-more found.0 (stmts_calls ss))
          rest (count-more found.0 (helpers_in p ss))
      by None is rest =
          sums-second (count_of (stmt_calls s ++ stmts_calls ss)) (count_of (stmts_calls ss)) (count_of (stmt_calls s))
          (count_of (stmt_calls s ++ others_in p ss)) (count_of (helpers_in p ss)) (count_of (others_in p ss))
          (count-append (stmt_calls s) (stmts_calls ss)) rest (count-append (stmt_calls s) (others_in p ss))

  counted-in : (p : ProgramTree) (q : ProcedureTree) →
      count_of (stmts_calls q.body) ≡ count_of (helpers_of p q) + count_of (remaining p q)
  counted-in p q = by (is_interface q.name)
    where
      by : (b : Bool) → count_of (stmts_calls q.body)
          ≡ count_of (if b then helpers_in p q.body else []) + count_of (if b then others_in p q.body else stmts_calls q.body)
      by true = counted p q.body
      by false = sym (zero-add (count_of (stmts_calls q.body)))

  pub counted-all : (p : ProgramTree) (qs : List ProcedureTree) →
      count_of (flat_map (λ q. stmts_calls q.body) qs) ≡ count_of (flat_map (helpers_of p) qs) + count_of (flat_map (remaining p) qs)
  counted-all p [] = refl
  counted-all p (q ∷ qs) =
      let calls = flat_map (λ (x : ProcedureTree). stmts_calls x.body) qs in
      let helpers = flat_map (helpers_of p) qs in
      let others = flat_map (remaining p) qs in
      sums-both (count_of (stmts_calls q.body ++ calls)) (count_of (stmts_calls q.body)) (count_of calls)
      (count_of (helpers_of p q ++ helpers)) (count_of (helpers_of p q)) (count_of helpers)
      (count_of (remaining p q ++ others)) (count_of (remaining p q)) (count_of others)
      (count-append (stmts_calls q.body) calls) (counted-in p q) (counted-all p qs)
      (count-append (helpers_of p q) helpers) (count-append (remaining p q) others)

  -- a number that is there is counted
  pub counted-there : (xs : List ℕ) → has_number xs k ≡ true → 1 ≤ count_of xs
  counted-there [] h = absurd (let wrong : ⊥ = cc h in wrong)
  counted-there (x ∷ xs) h = by (x == k) refl h (counted-there xs)
    where
      by : (b : Bool) → (x == k) ≡ b → (b || has_number xs k) ≡ true → (has_number xs k ≡ true → 1 ≤ count_of xs) →
          1 ≤ count_of (x ∷ xs)
      by true e is next =
          let more = count-more x xs in let one : one_of x ≡ 1 = ap (λ b. cond b 1 0) e in omega (arith, more, one)
      by false e is next = let more = count-more x xs in let some = next is in omega (arith, more, some)

  -- what holds of each of some holds of one that is there
  there-holds : (P : ℕ → Type 0) (xs : List ℕ) → AllByRecursion P xs → has_number xs k ≡ true → P k
  there-holds P [] all h = absurd (let wrong : ⊥ = cc h in wrong)
  there-holds P (x ∷ xs) all h = by (x == k) refl h (there-holds P xs all.1)
    where
      by : (b : Bool) → (x == k) ≡ b → (b || has_number xs k) ≡ true → (has_number xs k ≡ true → P k) → P k
      by true e is next = subst P (let same : x ≡ k = grind (arith, nat_tests) in same) all.0
      by false e is next = next is

-- each of some numbers, if what is counted among them holds
each-counted : (P : ℕ → Type 0) (xs : List ℕ) → ((k : ℕ) → 1 ≤ count_of k xs → P k) → AllByRecursion P xs
each-counted P [] each = tt
each-counted P (x ∷ xs) each = (
  each x (let more = count-more x x xs in let one : one_of x x ≡ 1 = ap (λ b. cond b 1 0) (same x) in omega (arith, more, one)),
  each-counted P xs (λ k some. each k (let more = count-more k x xs in omega (arith, more, some))),
)
  where
    same : (k : ℕ) → (k == k) ≡ true
    same k = grind (arith, nat_tests)

-- ---- Helpers that don't stay

-- a helper, by what it is
pub record IsHelper (p : ProgramTree) (k : ℕ) : Type 0 where
  pub private : (procedure_at p k).private ≡ true
  pub once : call_count p k ≡ 1
  pub unlogged : is_interface (procedure_at p k).name ≡ false
  pub no_root : is_root_name (procedure_at p k).name ≡ false

pub helper-is : (p : ProgramTree) (k : ℕ) → is_helper p k ≡ true → IsHelper p k
helper-is p k h =
    let q = procedure_at p k in
    let (first, last) = and_parts (q.private && (call_count p k == 1)) (not (is_interface q.name || is_root_name q.name)) h in
    let (private, once) = and_parts q.private (call_count p k == 1) first in
    let (unlogged, no_root) = neither (is_interface q.name) (is_root_name q.name) last in
    record { private = private; once = equal (call_count p k) 1 once; unlogged = unlogged; no_root = no_root }
  where
    neither : (a b : Bool) → not (a || b) ≡ true → (a ≡ false) × (b ≡ false)
    neither true b e = absurd (let wrong : ⊥ = cc e in wrong)
    neither false true e = absurd (let wrong : ⊥ = cc e in wrong)
    neither false false e = (refl, refl)

    equal : (a b : ℕ) → (a == b) ≡ true → a ≡ b
    equal a b e = grind (arith, nat_tests)

helpers-are : (p : ProgramTree) (ss : StmtTrees) → AllByRecursion (λ k. is_helper p k ≡ true) (helpers_in p ss)
helpers-are p no_stmts = tt
helpers-are p (more_stmts s ss) = by (helper_call p s) refl (helpers-are p ss)
  where
    by : (o : Option (ℕ × List ℕ)) → helper_call p s ≡ o → AllByRecursion (λ k. is_helper p k ≡ true) (helpers_in p ss) →
        AllByRecursion (λ k. is_helper p k ≡ true) (elim o [ Some found ↦ found.0 ∷ helpers_in p ss | None ↦ helpers_in p ss ])
    by (Some found) is rest = ((helper_call-found p s found is).helper, rest)
    by None is rest = rest

all-helpers : (p : ProgramTree) (qs : List ProcedureTree) →
    AllByRecursion (λ q. AllByRecursion (λ k. is_helper p k ≡ true) (helpers_of p q)) qs
all-helpers p [] = tt
all-helpers p (q ∷ qs) = (by (is_interface q.name), all-helpers p qs)
  where
    by : (b : Bool) → AllByRecursion (λ k. is_helper p k ≡ true) (if b then helpers_in p q.body else [])
    by true = helpers-are p q.body
    by false = tt

pub inlined-there : (p : ProgramTree) (k : ℕ) → stays p k ≡ false → has_number (inlined_helpers p) k ≡ true
inlined-there p k h = by (has_number (inlined_helpers p) k) h
  where
    by : (b : Bool) → not b ≡ false → b ≡ true
    by true e = refl
    by false e = absurd (let wrong : ⊥ = cc e in wrong)

-- what doesn't stay is a helper
pub inlined-is : (p : ProgramTree) (k : ℕ) → stays p k ≡ false → IsHelper p k
inlined-is p k h =
    helper-is p k
    (there-holds k (λ j. is_helper p j ≡ true) (inlined_helpers p)
    (all-whole (λ j. is_helper p j ≡ true) (helpers_of p) p.procedures (all-helpers p p.procedures)) (inlined-there p k h))

-- ---- What stays

-- what is no helper stays
stays-unless : (p : ProgramTree) (k : ℕ) → (IsHelper p k → ⊥) → stays p k ≡ true
stays-unless p k none = by (stays p k) refl
  where
    by : (b : Bool) → stays p k ≡ b → b ≡ true
    by true e = refl
    by false e = absurd (none (inlined-is p k e))

pub public-stays : (p : ProgramTree) (k : ℕ) → (procedure_at p k).private ≡ false → stays p k ≡ true
public-stays p k h = stays-unless p k (λ is. let wrong : ⊥ = cc (sym h ∙ is.private) in wrong)

pub logged-stays : (p : ProgramTree) (k : ℕ) → is_interface (procedure_at p k).name ≡ true → stays p k ≡ true
logged-stays p k h = stays-unless p k (λ is. let wrong : ⊥ = cc (sym h ∙ is.unlogged) in wrong)

pub root-stays : (p : ProgramTree) (k : ℕ) → is_root_name (procedure_at p k).name ≡ true → stays p k ≡ true
root-stays p k h = stays-unless p k (λ is. let wrong : ⊥ = cc (sym h ∙ is.no_root) in wrong)

-- beside helpers whose bodies go there, what is called stays: a helper is called only there
all-remaining : (p : ProgramTree) → AllByRecursion (λ k. stays p k ≡ true) (flat_map (remaining p) p.procedures)
all-remaining p = each-counted (λ k. stays p k ≡ true) (flat_map (remaining p) p.procedures) (λ k some. by k some (stays p k) refl)
  where
    by : (k : ℕ) → 1 ≤ count_of k (flat_map (remaining p) p.procedures) → (b : Bool) → stays p k ≡ b → b ≡ true
    by k some true e = refl
    by k some false e =
        let once = (inlined-is p k e).once in
        let sum = counted-all k p p.procedures in
        let there = counted-there k (inlined_helpers p) (inlined-there p k e) in
        absurd (two (call_count p k) (count_of k (inlined_helpers p)) (count_of k (flat_map (remaining p) p.procedures)) once sum there some)
      where
        two : (calls helpers others : ℕ) → calls ≡ 1 → calls ≡ helpers + others → 1 ≤ helpers → 1 ≤ others → ⊥
        two calls helpers others e d f g = omega (arith, e, d, f, g)

pub each-at : {A : Type 0} (P : A → Type 0) (xs : List A) (k : ℕ) (x : A) → AllByRecursion P xs → slice_get xs k ≡ Some x → P x
each-at P [] k x all there = absurd (let wrong : ⊥ = cc there in wrong)
each-at P (y ∷ ys) zero x all there = subst P (ap (λ o. unwrap_or o y) there) all.0
each-at P (y ∷ ys) (suc k) x all there = each-at P ys k x all.1 there

pub remaining-stay : (p : ProgramTree) (k : ℕ) (q : ProcedureTree) → slice_get p.procedures k ≡ Some q →
    AllByRecursion (λ j. stays p j ≡ true) (remaining p q)
remaining-stay p k q there =
    each-at (λ x. AllByRecursion (λ j. stays p j ≡ true) (remaining p x)) p.procedures k q
    (all-parts (λ j. stays p j ≡ true) (remaining p) p.procedures (all-remaining p)) there
