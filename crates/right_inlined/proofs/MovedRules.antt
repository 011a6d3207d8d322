-- Moved code keeps the rules of a system, where each parameter is named as before.
use Rattle.std.specs.Prelude.{◌≡◌, ℕ, List, [], ◌∷◌, ◌++◌, map, length, Contains}
use Rattle.std.specs.List.{AllByRecursion, AllZip}
use Rattle.std.proofs.Common.{refl, sym, ap, ap₂, subst, ◌∙◌}
use Rattle.std.proofs.lemmas.List.{append_assoc, map-append}
use Rattle.modules_profile.specs.LocalSystem.{LocalSystem}
use Rattle.c_syntax.specs.declared.code.Leaf.{Leaf}
use Rattle.c_syntax.specs.declared.code.Target.{Target}
use Rattle.c_syntax.specs.declared.code.Target.TheVariants.{Own, Child}
use Rattle.c_syntax.specs.Tree.{ExprTree, CondTree, StmtTree, assign, assign_at, branch, call, StmtTrees, no_stmts, more_stmts, stmts_append, ParamTree, ProcedureTree}
use Rattle.c_syntax.specs.Lawful.{Reach, AreLawfulStmts}
use Rattle.emit_shape.specs.NamedLeaf.{NamedLeaf, param}
use Rattle.emit_shape.specs.Heads.{Head}
use Rattle.emit_shape.specs.CodeNames.{CodeNames, named_leaf, named_leaves, IsReadOf}
use Rattle.emit_shape.specs.Reads.{StoreSite, IndexSite, CallSite, stmt_stores, stores_in, stmt_tests, tests_in, stmt_calls, calls_in, stmt_indices, indices_in, expr_leaves, cond_leaves}
use Rattle.emit_shape.specs.Rules.{passed, IsRightCall, store_reads, index_reads, test_reads}
use Rattle.emit_pruned.proofs.lemmas.Numbers.{all-left, all-right, all-both, each-both}
use Rattle.emit_inlined.specs.Inlined as inlined
use Rattle.emit_inlined.specs.Inlined.{moved_leaf, moved_expr, moved_cond, moved_stmts}
use Rattle.right_pruned.proofs.lemmas.Lists.{each-map, zip-map}
use Rattle.right_fused.proofs.lemmas.Lists.{map-each}
use Rattle.right_inlined.proofs.MovedSites.{expr-leaves, cond-leaves, moved_store, moved_index, moved_call, stores-moved, tests-moved, calls-moved, indices-moved}
use Rattle.right_inlined.proofs.LawfulSites.{IsInside, ExprInside, CondInside, StoreInside, IndexInside, CallInside, stores-inside, tests-inside, calls-inside, indices-inside}

-- the same names, except for those of procedures
abbrev pub renamed : CodeNames → (ℕ → Head) → CodeNames
renamed n callee = record { own = n.own; inner = n.inner; struct = n.struct; callee = callee }

-- ---- The rules for some statements of a procedure

pub record KeepsPart (n : CodeNames) (local : LocalSystem) (counters : List (List ℕ)) (x : ProcedureTree)
    (ss : StmtTrees) : Type 0 where
  pub calls : AllByRecursion (λ c. IsRightCall n local x c.target (n.callee c.procedure) c.values) (calls_in ss)
  pub stores : AllByRecursion
      (λ st. AllByRecursion (Contains (store_reads local counters (n.own st.field))) (named_leaves n x.params (expr_leaves st.value)))
      (stores_in ss)
  pub indices : AllByRecursion
      (λ i. AllByRecursion (Contains (index_reads local (n.own i.field))) (named_leaves n x.params (expr_leaves i.index)))
      (indices_in ss)
  pub tests : AllByRecursion
      (λ test. AllByRecursion (Contains (test_reads counters)) (named_leaves n x.params (cond_leaves test))) (tests_in ss)

-- what statements have, one row after another
module _ {X : Type 0} (one : StmtTree → List X) (all : StmtTrees → List X) (nothing : all no_stmts ≡ [])
    (next : (s : StmtTree) (ss : StmtTrees) → all (more_stmts s ss) ≡ one s ++ all ss) where
  pub of-append : (ss later : StmtTrees) → all (stmts_append ss later) ≡ all ss ++ all later
  of-append no_stmts later = λ i. sym nothing i ++ all later
  of-append (more_stmts s ss) later =
      next s (stmts_append ss later) ∙ ap (λ rest. one s ++ rest) (of-append ss later) ∙ sym (append_assoc (one s) (all ss) (all later))
      ∙ (λ i. sym (next s ss) i ++ all later)

module _ (n : CodeNames) (local : LocalSystem) (counters : List (List ℕ)) (x : ProcedureTree) where
  abbrev RightCall : CallSite → Type 0
  RightCall c = IsRightCall n local x c.target (n.callee c.procedure) c.values

  abbrev RightStore : StoreSite → Type 0
  RightStore st = AllByRecursion (Contains (store_reads local counters (n.own st.field))) (named_leaves n x.params (expr_leaves st.value))

  abbrev RightIndex : IndexSite → Type 0
  RightIndex i = AllByRecursion (Contains (index_reads local (n.own i.field))) (named_leaves n x.params (expr_leaves i.index))

  abbrev RightTest : CondTree → Type 0
  RightTest test = AllByRecursion (Contains (test_reads counters)) (named_leaves n x.params (cond_leaves test))

  pub part-none : KeepsPart n local counters x no_stmts
  part-none = record { calls = tt; stores = tt; indices = tt; tests = tt }

  pub part-first : (s : StmtTree) (ss : StmtTrees) → KeepsPart n local counters x (more_stmts s ss) →
      KeepsPart n local counters x (more_stmts s no_stmts)
  part-first s ss h = record {
    calls = all-both RightCall (stmt_calls s) [] (all-left RightCall (stmt_calls s) (calls_in ss) h.calls) tt;
    stores = all-both RightStore (stmt_stores s) [] (all-left RightStore (stmt_stores s) (stores_in ss) h.stores) tt;
    indices = all-both RightIndex (stmt_indices s) [] (all-left RightIndex (stmt_indices s) (indices_in ss) h.indices) tt;
    tests = all-both RightTest (stmt_tests s) [] (all-left RightTest (stmt_tests s) (tests_in ss) h.tests) tt;
  }

  pub part-rest : (s : StmtTree) (ss : StmtTrees) → KeepsPart n local counters x (more_stmts s ss) → KeepsPart n local counters x ss
  part-rest s ss h = record {
    calls = all-right RightCall (stmt_calls s) (calls_in ss) h.calls;
    stores = all-right RightStore (stmt_stores s) (stores_in ss) h.stores;
    indices = all-right RightIndex (stmt_indices s) (indices_in ss) h.indices;
    tests = all-right RightTest (stmt_tests s) (tests_in ss) h.tests;
  }

  pub part-append : (ss later : StmtTrees) → KeepsPart n local counters x ss → KeepsPart n local counters x later →
      KeepsPart n local counters x (stmts_append ss later)
  part-append ss later h g = record {
    calls = subst (AllByRecursion RightCall) (sym (of-append stmt_calls calls_in refl (λ s xs. refl) ss later))
        (all-both RightCall (calls_in ss) (calls_in later) h.calls g.calls);
    stores = subst (AllByRecursion RightStore) (sym (of-append stmt_stores stores_in refl (λ s xs. refl) ss later))
        (all-both RightStore (stores_in ss) (stores_in later) h.stores g.stores);
    indices = subst (AllByRecursion RightIndex) (sym (of-append stmt_indices indices_in refl (λ s xs. refl) ss later))
        (all-both RightIndex (indices_in ss) (indices_in later) h.indices g.indices);
    tests = subst (AllByRecursion RightTest) (sym (of-append stmt_tests tests_in refl (λ s xs. refl) ss later))
        (all-both RightTest (tests_in ss) (tests_in later) h.tests g.tests);
  }

-- ---- Positions of what is called

mutual
  stmt-numbers : (x : StmtTree) → inlined.stmt_calls x ≡ map (λ (c : CallSite). c.procedure) (stmt_calls x)
  stmt-numbers (assign line f e) = refl
  stmt-numbers (assign_at line f index e) = refl
  stmt-numbers (branch line test a b) =
      ap₂ ◌++◌ (call-numbers a) (call-numbers b) ∙ sym (map-append (λ (c : CallSite). c.procedure) (calls_in a) (calls_in b))
  stmt-numbers (call line k target es) = refl

  pub call-numbers : (xs : StmtTrees) → inlined.stmts_calls xs ≡ map (λ (c : CallSite). c.procedure) (calls_in xs)
  call-numbers no_stmts = refl
  call-numbers (more_stmts x xs) =
      ap₂ ◌++◌ (stmt-numbers x) (call-numbers xs) ∙ sym (map-append (λ (c : CallSite). c.procedure) (stmt_calls x) (calls_in xs))

-- what holds of the position at each call
pub each-call : (P : ℕ → Type 0) (xs : StmtTrees) → AllByRecursion P (inlined.stmts_calls xs) →
    AllByRecursion (λ (c : CallSite). P c.procedure) (calls_in xs)
each-call P xs h = map-each (λ (c : CallSite). c.procedure) P (calls_in xs) (subst (AllByRecursion P) (call-numbers xs) h)

-- ---- Moved code

pub zip-with : {A B : Type 0} (R : A → B → Type 0) (P : B → Type 0) (firsts : List A) (bs : List B) → AllZip R firsts bs →
    AllByRecursion P bs → AllZip (λ a b. R a b × P b) firsts bs
zip-with R P [] [] h g = tt
zip-with R P [] (b ∷ bs) h g = absurd h
zip-with R P (a ∷ firsts) [] h g = absurd h
zip-with R P (a ∷ firsts) (b ∷ bs) h g = ((h.0, g.0), zip-with R P firsts bs h.1 g.1)

-- the parameters of a procedure x, by their names, in place of those of another
module _ (n : CodeNames) (move place : ℕ → ℕ) (h x : ProcedureTree)
    (names : (leaf : Leaf) → IsInside (length h.params) leaf →
    named_leaf n x.params (moved_leaf move place leaf) ≡ named_leaf n h.params leaf) where
  named-moved : (leaves : List Leaf) → AllByRecursion (IsInside (length h.params)) leaves →
      named_leaves n x.params (map (moved_leaf move place) leaves) ≡ named_leaves n h.params leaves
  named-moved [] inside = refl
  named-moved (leaf ∷ leaves) inside = ap₂ ◌∷◌ (names leaf inside.0) (named-moved leaves inside.1)

  pub expr-named : (e : ExprTree) → ExprInside (length h.params) e →
      named_leaves n x.params (expr_leaves (moved_expr move place e)) ≡ named_leaves n h.params (expr_leaves e)
  expr-named e inside = ap (named_leaves n x.params) (expr-leaves move place e) ∙ named-moved (expr_leaves e) inside

  pub cond-named : (c : CondTree) → CondInside (length h.params) c →
      named_leaves n x.params (cond_leaves (moved_cond move place c)) ≡ named_leaves n h.params (cond_leaves c)
  cond-named c inside = ap (named_leaves n x.params) (cond-leaves move place c) ∙ named-moved (cond_leaves c) inside

  pub read-moved : (what : NamedLeaf) (e : ExprTree) → IsReadOf n h.params what e × ExprInside (length h.params) e →
      IsReadOf n x.params what (moved_expr move place e)
  read-moved what e ((leaf, is, named), inside) = (
    moved_leaf move place leaf,
    ap (moved_expr move place) is,
    names leaf (subst (ExprInside (length h.params)) is inside).0 ∙ named,
  )

  module _ (local : LocalSystem) (callee : ℕ → Head) where
    passing : (target : Target) (k : ℕ) (values : List ExprTree) → AllByRecursion (ExprInside (length h.params)) values →
        callee (place k) ≡ n.callee k → IsRightCall n local h target (n.callee k) values →
        IsRightCall (renamed n callee) local x target (callee (place k)) (map (moved_expr move place) values)
    passing Own k values inside placed right =
        subst (λ (g : Head). AllZip (λ (wanted : ParamTree) e. IsReadOf n x.params (param wanted.name) e) g.params
        (map (moved_expr move place) values)) (sym placed)
        (zip-map (moved_expr move place)
        (λ (wanted : ParamTree) e. IsReadOf n h.params (param wanted.name) e × ExprInside (length h.params) e)
        (λ (wanted : ParamTree) e. IsReadOf n x.params (param wanted.name) e)
        (λ wanted e one. read-moved (param wanted.name) e one) (n.callee k).params values
        (zip-with (λ (wanted : ParamTree) e. IsReadOf n h.params (param wanted.name) e) (ExprInside (length h.params))
        (n.callee k).params values right inside))
    passing (Child f) k values inside placed right = subst
        (λ (g : Head). IsRightCall (renamed n callee) local x (Child f) g (map (moved_expr move place) values)) (sym placed)
        (record {
          child = right.child;
          is_child = right.is_child;
          on_child = right.on_child;
          is_public = right.is_public;
          passes = zip-map (moved_expr move place)
              (λ (wanted : ParamTree) e. ((what : NamedLeaf) × Contains (passed local right.child) (wanted.name, what)
              × IsReadOf n h.params what e) × ExprInside (length h.params) e)
              (λ (wanted : ParamTree) e. (what : NamedLeaf) × Contains (passed local right.child) (wanted.name, what)
              × IsReadOf n x.params what e)
              (λ wanted e ((what, there, is), one). (what, there, read-moved what e (is, one))) (n.callee k).params values
              (zip-with (λ (wanted : ParamTree) e. (what : NamedLeaf) × Contains (passed local right.child) (wanted.name, what)
              × IsReadOf n h.params what e) (ExprInside (length h.params)) (n.callee k).params values right.passes inside);
        })

    -- lawful statements, of which each procedure called is at its place
    pub part-moved : (counters : List (List ℕ)) (reach : Reach) (params : reach.params ≡ length h.params) (ss : StmtTrees) →
        AreLawfulStmts reach ss → AllByRecursion (λ k. callee (place k) ≡ n.callee k) (inlined.stmts_calls ss) →
        KeepsPart n local counters h ss → KeepsPart (renamed n callee) local counters x (moved_stmts move place ss)
    part-moved counters reach params ss lawful placed right = record {
      calls = subst (AllByRecursion (RightCall (renamed n callee) local counters x)) (sym (calls-moved move place ss))
          (each-map (moved_call move place)
          (λ c. (RightCall n local counters h c × CallInside (length h.params) c) × (callee (place c.procedure) ≡ n.callee c.procedure))
          (RightCall (renamed n callee) local counters x) (calls_in ss)
          (λ c one. passing c.target c.procedure c.values one.0.1 one.1 one.0.0)
          (each-both (λ c. RightCall n local counters h c × CallInside (length h.params) c)
          (λ c. callee (place c.procedure) ≡ n.callee c.procedure) (calls_in ss)
          (each-both (RightCall n local counters h) (CallInside (length h.params)) (calls_in ss) right.calls
          (subst (λ m. AllByRecursion (CallInside m) (calls_in ss)) params (calls-inside reach ss lawful)))
          (each-call (λ k. callee (place k) ≡ n.callee k) ss placed)));
      stores = subst (AllByRecursion (RightStore (renamed n callee) local counters x)) (sym (stores-moved move place ss))
          (each-map (moved_store move place) (λ st. RightStore n local counters h st × StoreInside (length h.params) st)
          (RightStore (renamed n callee) local counters x) (stores_in ss)
          (λ st one. subst (AllByRecursion (Contains (store_reads local counters (n.own st.field)))) (sym (expr-named st.value one.1)) one.0)
          (each-both (RightStore n local counters h) (StoreInside (length h.params)) (stores_in ss) right.stores
          (subst (λ m. AllByRecursion (StoreInside m) (stores_in ss)) params (stores-inside reach ss lawful))));
      indices = subst (AllByRecursion (RightIndex (renamed n callee) local counters x)) (sym (indices-moved move place ss))
          (each-map (moved_index move place) (λ i. RightIndex n local counters h i × IndexInside (length h.params) i)
          (RightIndex (renamed n callee) local counters x) (indices_in ss)
          (λ i one. subst (AllByRecursion (Contains (index_reads local (n.own i.field)))) (sym (expr-named i.index one.1)) one.0)
          (each-both (RightIndex n local counters h) (IndexInside (length h.params)) (indices_in ss) right.indices
          (subst (λ m. AllByRecursion (IndexInside m) (indices_in ss)) params (indices-inside reach ss lawful))));
      tests = subst (AllByRecursion (RightTest (renamed n callee) local counters x)) (sym (tests-moved move place ss))
          (each-map (moved_cond move place) (λ test. RightTest n local counters h test × CondInside (length h.params) test)
          (RightTest (renamed n callee) local counters x) (tests_in ss)
          (λ test one. subst (AllByRecursion (Contains (test_reads counters))) (sym (cond-named test one.1)) one.0)
          (each-both (RightTest n local counters h) (CondInside (length h.params)) (tests_in ss) right.tests
          (subst (λ m. AllByRecursion (CondInside m) (tests_in ss)) params (tests-inside reach ss lawful))));
    }
