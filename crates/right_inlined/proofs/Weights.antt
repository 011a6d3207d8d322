-- A weight of code by what it stores, calls and tests, and that code has the same when it is moved.
use Rattle.std.specs.Prelude.{◌≡◌, ℕ, ◌+◌, List, [], ◌∷◌, map, sum_by}
use Rattle.std.specs.List.{AllByRecursion}
use Rattle.std.proofs.Common.{refl, sym, ap, ◌∙◌, arith}
use Rattle.std.proofs.lemmas.List.Sums.{sum_by-cons, sum_by-append}
use Rattle.c_syntax.specs.declared.code.Leaf.{Leaf}
use Rattle.c_syntax.specs.declared.code.Target.{Target}
use Rattle.c_syntax.specs.Tree.{CondTree, StmtTree, StmtTrees, no_stmts, more_stmts, stmts_append}
use Rattle.emit_shape.specs.Reads.{StoreSite, CallSite, stmt_stores, stores_in, stmt_tests, tests_in, stmt_calls, calls_in, cond_leaves}
use Rattle.emit_inlined.specs.Inlined as inlined
use Rattle.emit_inlined.specs.Inlined.{moved_leaf, moved_cond, moved_stmts}
use Rattle.right_inlined.proofs.MovedSites.{moved_store, moved_call, stores-moved, tests-moved, calls-moved, cond-leaves}
use Rattle.right_inlined.proofs.MovedRules.{of-append, each-call}
use Rattle.right_inlined.proofs.Totals.{sum-map}

-- of a store in the field at a position, of a call of the procedure at a position, and of a leaf in a test
pub record Weights : Type 0 where
  pub store : ℕ → ℕ
  pub call : ℕ → Target → ℕ
  pub leaf : Leaf → ℕ

abbrev pub store_weight : Weights → StmtTrees → ℕ
store_weight w ss = sum_by (λ (st : StoreSite). w.store st.field) (stores_in ss)

abbrev pub call_weight : Weights → StmtTrees → ℕ
call_weight w ss = sum_by (λ (c : CallSite). w.call c.procedure c.target) (calls_in ss)

abbrev pub leaf_weight : Weights → CondTree → ℕ
leaf_weight w test = sum_by w.leaf (cond_leaves test)

abbrev pub test_weight : Weights → StmtTrees → ℕ
test_weight w ss = sum_by (leaf_weight w) (tests_in ss)

pub weigh : Weights → StmtTrees → ℕ
weigh w ss = store_weight w ss + call_weight w ss + test_weight w ss

pub weigh-is : (w : Weights) (ss : StmtTrees) → weigh w ss ≡ store_weight w ss + call_weight w ss + test_weight w ss
unfolding weigh
weigh-is w ss = refl

pub weigh-none : (w : Weights) → weigh w no_stmts ≡ 0
unfolding weigh
weigh-none w = refl

pub weigh-append : (w : Weights) (ss later : StmtTrees) → weigh w (stmts_append ss later) ≡ weigh w ss + weigh w later
unfolding weigh
weigh-append w ss later =
    let stores : store_weight w (stmts_append ss later) ≡ store_weight w ss + store_weight w later =
    ap (sum_by (λ (st : StoreSite). w.store st.field)) (of-append stmt_stores stores_in refl (λ s xs. refl) ss later)
    ∙ sum_by-append (λ (st : StoreSite). w.store st.field) (stores_in ss) (stores_in later) in
    let calls : call_weight w (stmts_append ss later) ≡ call_weight w ss + call_weight w later =
    ap (sum_by (λ (c : CallSite). w.call c.procedure c.target)) (of-append stmt_calls calls_in refl (λ s xs. refl) ss later)
    ∙ sum_by-append (λ (c : CallSite). w.call c.procedure c.target) (calls_in ss) (calls_in later) in
    let tests : test_weight w (stmts_append ss later) ≡ test_weight w ss + test_weight w later =
    ap (sum_by (leaf_weight w)) (of-append stmt_tests tests_in refl (λ s xs. refl) ss later)
    ∙ sum_by-append (leaf_weight w) (tests_in ss) (tests_in later) in omega (arith, stores, calls, tests)

-- the first statement, and the rest
pub weigh-more : (w : Weights) (s : StmtTree) (ss : StmtTrees) →
    weigh w (more_stmts s ss) ≡ weigh w (more_stmts s no_stmts) + weigh w ss
weigh-more w s ss = weigh-append w (more_stmts s no_stmts) ss

-- ---- Moved code

-- sums of what is the same for each item
same-sums : {A : Type 0} (f g : A → ℕ) (xs : List A) → AllByRecursion (λ x. f x ≡ g x) xs → sum_by f xs ≡ sum_by g xs
same-sums f g [] h = refl
same-sums f g (x ∷ xs) h =
    sum_by-cons f x xs ∙ (λ i. h.0 i + same-sums f g xs h.1 i) ∙ sym (sum_by-cons g x xs)

-- the same weights, except for those of calls
abbrev pub with_calls : Weights → (ℕ → Target → ℕ) → Weights
with_calls w calls = record { store = w.store; call = calls; leaf = w.leaf }

module _ (w : Weights) (calls : ℕ → Target → ℕ) (move place : ℕ → ℕ) (leaves : (l : Leaf) → w.leaf (moved_leaf move place l) ≡ w.leaf l) where
  moved-leaves : (ls : List Leaf) → sum_by w.leaf (map (moved_leaf move place) ls) ≡ sum_by w.leaf ls
  moved-leaves ls = sum-map (moved_leaf move place) w.leaf ls ∙ (λ i. sum_by (λ l. leaves l i) ls)

  moved-test : (test : CondTree) → leaf_weight w (moved_cond move place test) ≡ leaf_weight w test
  moved-test test = ap (sum_by w.leaf) (cond-leaves move place test) ∙ moved-leaves (cond_leaves test)

  pub weigh-moved : (ss : StmtTrees) →
      AllByRecursion (λ k. (target : Target) → calls (place k) target ≡ w.call k target) (inlined.stmts_calls ss) →
      weigh (with_calls w calls) (moved_stmts move place ss) ≡ weigh w ss
  unfolding weigh
  weigh-moved ss same =
      let stores : store_weight w (moved_stmts move place ss) ≡ store_weight w ss =
      ap (sum_by (λ (st : StoreSite). w.store st.field)) (stores-moved move place ss)
      ∙ sum-map (moved_store move place) (λ (st : StoreSite). w.store st.field) (stores_in ss) in
      let called : call_weight (with_calls w calls) (moved_stmts move place ss) ≡ call_weight w ss =
      ap (sum_by (λ (c : CallSite). calls c.procedure c.target)) (calls-moved move place ss)
      ∙ sum-map (moved_call move place) (λ (c : CallSite). calls c.procedure c.target) (calls_in ss)
      ∙ same-sums (λ (c : CallSite). calls (place c.procedure) c.target) (λ (c : CallSite). w.call c.procedure c.target) (calls_in ss)
      (each-target (calls_in ss) (each-call (λ k. (target : Target) → calls (place k) target ≡ w.call k target) ss same)) in
      let tests : test_weight w (moved_stmts move place ss) ≡ test_weight w ss =
      ap (sum_by (leaf_weight w)) (tests-moved move place ss) ∙ sum-map (moved_cond move place) (leaf_weight w) (tests_in ss)
      ∙ (λ i. sum_by (λ test. moved-test test i) (tests_in ss)) in omega (arith, stores, called, tests)
    where
      each-target : (cs : List CallSite) → AllByRecursion (λ (c : CallSite). (target : Target) →
          calls (place c.procedure) target ≡ w.call c.procedure target) cs →
          AllByRecursion (λ (c : CallSite). calls (place c.procedure) c.target ≡ w.call c.procedure c.target) cs
      each-target [] h = tt
      each-target (c ∷ cs) h = (h.0 c.target, each-target cs h.1)

-- weights of calls that agree at each call
pub weigh-agree : (w : Weights) (calls : ℕ → Target → ℕ) (ss : StmtTrees) →
    AllByRecursion (λ k. (target : Target) → calls k target ≡ w.call k target) (inlined.stmts_calls ss) →
    weigh (with_calls w calls) ss ≡ weigh w ss
unfolding weigh
weigh-agree w calls ss same =
    ap (λ n. store_weight w ss + n + test_weight w ss)
    (same-sums (λ (c : CallSite). calls c.procedure c.target) (λ (c : CallSite). w.call c.procedure c.target) (calls_in ss)
    (each-target (calls_in ss) (each-call (λ k. (target : Target) → calls k target ≡ w.call k target) ss same)))
  where
    each-target : (cs : List CallSite) → AllByRecursion (λ (c : CallSite). (target : Target) →
        calls c.procedure target ≡ w.call c.procedure target) cs →
        AllByRecursion (λ (c : CallSite). calls c.procedure c.target ≡ w.call c.procedure c.target) cs
    each-target [] h = tt
    each-target (c ∷ cs) h = (h.0 c.target, each-target cs h.1)
