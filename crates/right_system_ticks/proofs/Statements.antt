-- What one statement leaves and adds: a test, a store of a number, and a call on the same instance.
use Rattle.std.specs.Prelude.{◌≡◌, ℕ, ◌+◌, ◌≤◌, Bool, true, false, ◌==◌, ◌&&◌, if◌then◌else◌, cond, List, [], ◌∷◌, map, ℤ, refl}
use Rattle.std.proofs.Common.{sym, ap, subst, ◌∙◌, arith, true≢false}
use Rattle.std.proofs.lemmas.Bool.{eq-eqb, eqb-true}
use Rattle.std.proofs.lemmas.List.Sums.{sum_by-cons}
use Rattle.c_syntax.specs.declared.code.Target.TheVariants.{Own, Child}
use Rattle.c_syntax.specs.Tree.{ExprTree, literal, ExprTrees, no_exprs, CondTree, assign, branch, call, StmtTrees, type_at}
use Rattle.c_semantics.specs.Cells.{Cells, number, object, fields_at, set_cell}
use Rattle.c_semantics.specs.Values.{gives, is_in_type, step_limit}
use Rattle.c_semantics.specs.Machine.{Outcome, done, stuck, in_child, call_under, store_under, StoredField, Scope, run_stmts, routine_at}
use Rattle.c_semantics.specs.RunLaws.{test_in, value_in}
use Rattle.c_semantics.specs.CallLaws.{passed_in}
use Rattle.c_semantics.proofs.lemmas.RunLaws.{tests_choose_branches, numbers_are_stored}
use Rattle.c_semantics.proofs.lemmas.CallLaws.{own_calls_run_bodies, child_calls_stay_inside}
use Rattle.right_relation.specs.Instances.{Act, InstanceTick, OnDone, Leaves, Performs, same_path, stores_at}
use Rattle.right_relation.specs.NodeStatements.{stored_once, stored_inside}
use Rattle.right_system_ticks.specs.CodeAccounts.{Account, takes_steps, stores, calls_child, and_then}
use Rattle.right_system_ticks.proofs.Sequences.{Ends, Does, DoesOne}

-- an outcome after one step
later : (o : Outcome) (steps : ℕ) (y : Cells) (a : Account) → Ends o (steps + 1) y a → Ends o steps y (and_then (takes_steps 1) a)
later (done c) steps y a ends = record {
  fields = ends.fields;
  in_time = let early = ends.in_time in omega (arith, early);
  calls = ends.calls;
  stores = λ path field. let few = ends.stores path field in omega (arith, few);
}
later (stuck at cells) steps y a ends = ends

module _ (s : Scope) where
  pub branch-does : (test : CondTree) (on_true on_false : StmtTrees) (b : Bool) (x y : Cells) (a : Account) →
      ((steps : ℕ) → test_in s x 0 steps test ≡ gives b steps) → Does s (if b then on_true else on_false) x y a →
      DoesOne s (branch 0 test on_true on_false) x y (and_then (takes_steps 1) a)
  branch-does test on_true on_false true x y a tests does steps room =
      subst (λ o. Ends o steps y (and_then (takes_steps 1) a))
      (sym ((tests_choose_branches s 0 test on_true on_false x steps).holds (steps + 1) (omega (arith, room)) (tests (steps + 1))))
      (later (run_stmts s on_true x (steps + 1)) steps y a (does (steps + 1) (omega (arith, room))))
  branch-does test on_true on_false false x y a tests does steps room =
      subst (λ o. Ends o steps y (and_then (takes_steps 1) a))
      (sym ((tests_choose_branches s 0 test on_true on_false x steps).fails (steps + 1) (omega (arith, room)) (tests (steps + 1))))
      (later (run_stmts s on_false x (steps + 1)) steps y a (does (steps + 1) (omega (arith, room))))

  one-store : (f : ℕ) (path : List ℕ) (field : ℕ) → stores_at path field (record { path = []; field = f } ∷ []) ≤ stored_once f path field
  one-store f [] g = by (f == g) (g == f) (λ h. eq-eqb g f (sym (eqb-true f g h)))
    where
      by : (a b : Bool) → (a ≡ true → b ≡ true) → 0 + cond (true && a) 1 0 ≤ (if b then 1 else 0)
      by true true same = omega arith
      by true false same = absurd (true≢false (sym (same refl)))
      by false b same = omega arith
  one-store f (h ∷ path) g = omega arith

  pub store-of : (f : ℕ) (e : ExprTree) (v : ℤ) (x : Cells) → ((steps : ℕ) → value_in s x 0 steps e ≡ gives v steps) →
      is_in_type (type_at s.types f) v ≡ true → DoesOne s (assign 0 f e) x (set_cell x f (number v)) (stores 1 (stored_once f))
  store-of f e v x comes fits steps room =
      subst (λ o. Ends o steps (set_cell x f (number v)) (stores 1 (stored_once f)))
      (sym ((numbers_are_stored s 0 f e x steps).stored v (steps + 1) (omega (arith, room)) (comes (steps + 1)) fits))
      (record { fields = refl; in_time = omega arith; calls = refl; stores = λ path field. one-store f path field })

  pub store-does : (f : ℕ) (v : ℤ) (x : Cells) → is_in_type (type_at s.types f) v ≡ true →
      DoesOne s (assign 0 f (literal v)) x (set_cell x f (number v)) (stores 1 (stored_once f))
  store-does f v x fits = store-of f (literal v) v x (λ steps. refl) fits

  pub call-does : (k : ℕ) (es : ExprTrees) (given : List ℤ) (x y : Cells) (a : Account) →
      ((steps : ℕ) → passed_in s x 0 steps k es ≡ gives given steps) →
      ((steps : ℕ) → steps + (a.steps + a.inner) ≤ step_limit → Ends ((routine_at s.routines k).run given x steps) steps y a) →
      DoesOne s (call 0 k Own es) x y (and_then (takes_steps 1) a)
  call-does k es given x y a passes does steps room =
      subst (λ o. Ends o steps y (and_then (takes_steps 1) a))
      (sym ((own_calls_run_bodies s 0 k es x steps).does given (steps + 1) (omega (arith, room)) (passes (steps + 1))))
      (later ((routine_at s.routines k).run given x (steps + 1)) steps y a (does (steps + 1) (omega (arith, room))))

-- ---- A call of a child's procedure without arguments

stores-under : (f : ℕ) (xs : List StoredField) (path : List ℕ) (field : ℕ) (stored : List ℕ → ℕ → ℕ) →
    ((p : List ℕ) (g : ℕ) → stores_at p g xs ≤ stored p g) →
    stores_at path field (map (store_under f) xs) ≤ stored_inside f stored path field
stores-under f xs [] g stored few = none xs
  where
    none : (ys : List StoredField) → stores_at [] g (map (store_under f) ys) ≤ 0
    none [] = omega arith
    none (y ∷ ys) =
        let rest = none ys in
        at-most (stores_at [] g (map (store_under f) ys)) (stores_at [] g (map (store_under f) (y ∷ ys))) rest
        (sum_by-cons (λ st. if same_path [] st.path && (st.field == g) then 1 else 0) (store_under f y) (map (store_under f) ys))
      where
        at-most : (a b : ℕ) → a ≤ 0 → b ≡ 0 + a → b ≤ 0
        at-most a b few same = omega arith
stores-under f xs (h ∷ path) g stored few = by (h == f) refl
  where
    inside : (t : Bool) → (h == f) ≡ t → (ys : List StoredField) → stores_at (h ∷ path) g (map (store_under f) ys)
        ≡ (if t then stores_at path g ys else 0)
    inside true e [] = refl
    inside false e [] = refl
    inside t e (y ∷ ys) =
        sum_by-cons (λ st. if same_path (h ∷ path) st.path && (st.field == g) then 1 else 0) (store_under f y) (map (store_under f) ys)
        ∙ ap (λ b. (if (b && same_path path y.path) && (y.field == g) then 1 else 0) + stores_at (h ∷ path) g (map (store_under f) ys)) e
        ∙ ap (λ n. (if (t && same_path path y.path) && (y.field == g) then 1 else 0) + n) (inside t e ys)
        ∙ both t (sum_by-cons (λ st. if same_path path st.path && (st.field == g) then 1 else 0) y ys)
      where
        both : (t : Bool) → stores_at path g (y ∷ ys) ≡ (if same_path path y.path && (y.field == g) then 1 else 0) + stores_at path g ys →
            (if (t && same_path path y.path) && (y.field == g) then 1 else 0) + (if t then stores_at path g ys else 0)
            ≡ (if t then stores_at path g (y ∷ ys) else 0)
        both true same = sym same
        both false same = refl

    by : (t : Bool) → (h == f) ≡ t → stores_at (h ∷ path) g (map (store_under f) xs) ≤ (if t then stored path g else 0)
    by true e = let fewer = few path g in subst (λ n. n ≤ stored path g) (sym (inside true e xs)) fewer
    by false e = subst (λ n. n ≤ 0) (sym (inside false e xs)) (omega arith)

child-ends : (o : Outcome) (f : ℕ) (x : Cells) (steps : ℕ) (y : Cells) (k : ℕ) (i : InstanceTick) (called : ℕ → Bool) (act : Act) →
    OnDone o (Leaves y (steps + 1 + i.most called act) (i.log called act) (i.stored called act)) →
    Ends (in_child f x o) steps (set_cell x f (object y)) (calls_child 1 f k i called act)
child-ends (done c) f x steps y k i called act ends = record {
  fields = ap (λ cells. set_cell x f (object cells)) ends.fields;
  in_time = let early = ends.in_time in omega (arith, early);
  calls = ap (map (call_under f)) ends.calls;
  stores = λ path field. stores-under f c.stores path field (i.stored called act) ends.stores;
}
child-ends (stuck at cells) f x steps y k i called act ends = ends

-- what a child's procedure performs, its call does
pub child-call-does : (s : Scope) (p f : ℕ) (x y : Cells) (k : ℕ) (i : InstanceTick) (called : ℕ → Bool) (act : Act) →
    Performs (routine_at s.routines p) [] (fields_at x f) y (i.most called act) (i.log called act) (i.stored called act) →
    DoesOne s (call 0 p (Child f) no_exprs) x (set_cell x f (object y)) (calls_child 1 f k i called act)
child-call-does s p f x y k i called act performs steps room =
    subst (λ o. Ends o steps (set_cell x f (object y)) (calls_child 1 f k i called act))
    (sym ((child_calls_stay_inside s 0 p f no_exprs x steps).does [] (steps + 1) (omega (arith, room)) refl))
    (child-ends ((routine_at s.routines p).run [] (fields_at x f) (steps + 1)) f x steps y k i called act
    (performs (steps + 1) (omega (arith, room))))
