-- Procedures keep their rules with their calls of pure functions renumbered.
use Rattle.std.specs.Prelude.{◌≡◌, ℕ, ◌<◌, ◌≤◌, not, ◌||◌, MatchBool, if◌then◌else◌, Bool, List, [], ◌∷◌, ◌++◌, map, filter, flat_map, count_by, Contains, bytes_eq, ⊤}
use Rattle.std.specs.List.{AllByRecursion}
use Rattle.std.proofs.Common.{refl, sym, ap, ap₂, subst, ◌∙◌}
use Rattle.std.proofs.lemmas.List.Folds.{flat_map-map}
use Rattle.std.proofs.lemmas.Simd.{map-map}
use Rattle.diagram_blocks.specs.Meaning.{has_value}
use Rattle.diagram_blocks.specs.Kinds.{is_reset_outport}
use Rattle.modules_profile.specs.declared.ChildUse.{ChildUse}
use Rattle.modules_profile.specs.declared.LocalRow.{LocalRow}
use Rattle.modules_profile.specs.LocalSystem.{LocalSystem}
use Rattle.c_syntax.specs.declared.Target.{Target}
use Rattle.c_syntax.specs.declared.Target.TheVariants.{Own, Child}
use Rattle.c_syntax.specs.Tree.{ExprTree, CondTree, ParamTree, ProcedureTree}
use Rattle.emit_shape.specs.NamedLeaf.{NamedLeaf, param, own}
use Rattle.emit_shape.specs.Names.{value_name, start_name, reset_name, update_name}
use Rattle.emit_shape.specs.Heads.{Head, out_heads}
use Rattle.emit_shape.specs.CodeNames.{CodeNames, named_leaves, IsReadOf}
use Rattle.emit_shape.specs.Reads.{StoreSite, IndexSite, CallSite, stores_in, tests_in, calls_in, indices_in, expr_leaves, cond_leaves}
use Rattle.emit_shape.specs.Rules.{passed, IsRightCall, store_reads, index_reads, test_reads, KeepsRules}
use Rattle.emit_shape.specs.Once.{of_ticks, store_sites, call_sites, StatesOnce}
use Rattle.emit_shape.specs.Used.{tested_in, AreUsed}
use Rattle.emit_shape.specs.Stored.{stored_on, stored_in, stored_names}
use Rattle.emit_pruned.specs.Pruned.{renumbered_expr, renumbered_cond, renumbered_procedure}
use Rattle.emit_pruned.proofs.lemmas.Numbers.{each-then}
use Rattle.right_pruned.proofs.lemmas.Lists.{each-map, zip-map, filter-map}
use Rattle.right_pruned.proofs.PrunedBodies.{count-map, expr-leaves, cond-leaves, moved_store, moved_index, moved_call, stores-moved, tests-moved, calls-moved, indices-moved, flat-moved}

module _ (place : ℕ → ℕ) where
  abbrev move : ProcedureTree → ProcedureTree
  move = renumbered_procedure place

  -- a plain read is one of the same
  pub read-moved : (n : CodeNames) (params : List ParamTree) (what : NamedLeaf) (e : ExprTree) →
      IsReadOf n params what e → IsReadOf n params what (renumbered_expr place e)
  read-moved n params what e (leaf, is, named) = (leaf, ap (renumbered_expr place) is, named)

  passing : (n : CodeNames) (local : LocalSystem) (x : ProcedureTree) (callee : Head) (target : Target) (values : List ExprTree) →
      IsRightCall n local x target callee values → IsRightCall n local (move x) target callee (map (renumbered_expr place) values)
  passing n local x callee Own values h =
      zip-map (renumbered_expr place) (λ (wanted : ParamTree) e. IsReadOf n x.params (param wanted.name) e)
      (λ (wanted : ParamTree) e. IsReadOf n x.params (param wanted.name) e)
      (λ wanted e one. read-moved n x.params (param wanted.name) e one) callee.params values h
  passing n local x callee (Child f) values h = record {
    child = h.child;
    is_child = h.is_child;
    on_child = h.on_child;
    is_public = h.is_public;
    passes = zip-map (renumbered_expr place)
        (λ (wanted : ParamTree) e. (what : NamedLeaf) × Contains (passed local h.child) (wanted.name, what) × IsReadOf n x.params what e)
        (λ (wanted : ParamTree) e. (what : NamedLeaf) × Contains (passed local h.child) (wanted.name, what) × IsReadOf n x.params what e)
        (λ wanted e (what, there, is). (what, there, read-moved n x.params what e is)) callee.params values h.passes;
  }

  pub keeps : (n : CodeNames) (local : LocalSystem) (counters : List (List ℕ)) (x : ProcedureTree) →
      KeepsRules n local counters x → KeepsRules n local counters (move x)
  keeps n local counters x h = record {
    private_name = h.private_name;
    params = h.params;
    calls = subst
        (AllByRecursion (λ (c : CallSite). IsRightCall n local (move x) c.target (n.callee c.procedure) c.values))
        (sym (calls-moved place x.body))
        (each-map (moved_call place) (λ (c : CallSite). IsRightCall n local x c.target (n.callee c.procedure) c.values)
        (λ (c : CallSite). IsRightCall n local (move x) c.target (n.callee c.procedure) c.values) (calls_in x.body)
        (λ c one. passing n local x (n.callee c.procedure) c.target c.values one) h.calls);
    stores =
        subst (AllByRecursion
        (λ (st : StoreSite). AllByRecursion (Contains (store_reads local counters (n.own st.field)))
        (named_leaves n x.params (expr_leaves st.value)))) (sym (stores-moved place x.body))
        (each-map (moved_store place)
        (λ (st : StoreSite). AllByRecursion (Contains (store_reads local counters (n.own st.field)))
        (named_leaves n x.params (expr_leaves st.value)))
        (λ (st : StoreSite). AllByRecursion (Contains (store_reads local counters (n.own st.field)))
        (named_leaves n x.params (expr_leaves st.value))) (stores_in x.body)
        (λ st one.
        subst (λ leaves. AllByRecursion (Contains (store_reads local counters (n.own st.field)))
        (named_leaves n x.params leaves)) (sym (expr-leaves place st.value)) one) h.stores);
    indices =
        subst (AllByRecursion (λ (i : IndexSite). AllByRecursion (Contains (index_reads local (n.own i.field)))
        (named_leaves n x.params (expr_leaves i.index)))) (sym (indices-moved place x.body))
        (each-map (moved_index place) (λ (i : IndexSite). AllByRecursion (Contains (index_reads local (n.own i.field)))
        (named_leaves n x.params (expr_leaves i.index)))
        (λ (i : IndexSite). AllByRecursion (Contains (index_reads local (n.own i.field)))
        (named_leaves n x.params (expr_leaves i.index))) (indices_in x.body)
        (λ i one.
        subst (λ leaves. AllByRecursion (Contains (index_reads local (n.own i.field)))
        (named_leaves n x.params leaves)) (sym (expr-leaves place i.index)) one) h.indices);
    tests = subst
        (AllByRecursion
        (λ (test : CondTree). AllByRecursion (Contains (test_reads counters))
        (named_leaves n x.params (cond_leaves test)))) (sym (tests-moved place x.body))
        (each-map (renumbered_cond place)
        (λ (test : CondTree). AllByRecursion (Contains (test_reads counters))
        (named_leaves n x.params (cond_leaves test)))
        (λ (test : CondTree). AllByRecursion (Contains (test_reads counters))
        (named_leaves n x.params (cond_leaves test))) (tests_in x.body)
        (λ test one. subst (λ leaves. AllByRecursion (Contains (test_reads counters)) (named_leaves n x.params leaves))
        (sym (cond-leaves place test)) one) h.tests);
  }

  -- ---- How often a procedure is called

  sites-same : (n : CodeNames) (xs : List ProcedureTree) (name : List ℕ) → call_sites n xs name ≡ call_sites n (map move xs) name
  sites-same n xs name =
      let test : CallSite → Bool = λ c. bytes_eq (n.callee c.procedure).name name in
      sym (ap (count_by test) (flat-moved place (λ (x : ProcedureTree). calls_in x.body) (moved_call place)
      (λ x. calls-moved place x.body) xs)
      ∙ count-map (moved_call place) test (flat_map (λ (x : ProcedureTree). calls_in x.body) xs))

  -- ---- Each value once

  module _ (n : CodeNames) (local : LocalSystem) (xs : List ProcedureTree) where
    ticks-moved : of_ticks local (map move xs) ≡ map move (of_ticks local xs)
    ticks-moved = filter-map move (λ x. not (bytes_eq x.name (start_name local.row) || bytes_eq x.name (reset_name local.row))) xs

    stores-same : (name : List ℕ) → store_sites n (of_ticks local xs) name ≡ store_sites n (of_ticks local (map move xs)) name
    stores-same name =
        let test : StoreSite → Bool = λ st. bytes_eq (n.own st.field) name in
        sym (ap (λ qs. count_by test (flat_map (λ (x : ProcedureTree). stores_in x.body) qs)) ticks-moved
        ∙ ap (count_by test) (flat-moved place (λ (x : ProcedureTree). stores_in x.body) (moved_store place)
        (λ x. stores-moved place x.body) (of_ticks local xs))
        ∙ count-map (moved_store place) test (flat_map (λ (x : ProcedureTree). stores_in x.body) (of_ticks local xs)))

    calls-same : (name : List ℕ) → call_sites n (of_ticks local xs) name ≡ call_sites n (of_ticks local (map move xs)) name
    calls-same name = sites-same n (of_ticks local xs) name ∙ sym (ap (λ qs. call_sites n qs name) ticks-moved)

    pub once-moved : StatesOnce n local xs → StatesOnce n local (map move xs)
    once-moved h = record {
      values =
          each-then (λ (r : LocalRow). store_sites n (of_ticks local xs) (value_name r.row)
          ≤ (if is_reset_outport r.kind then 2 else 1))
          (λ (r : LocalRow). store_sites n (of_ticks local (map move xs)) (value_name r.row)
          ≤ (if is_reset_outport r.kind then 2 else 1)) (filter (λ (r : LocalRow). has_value r.kind) local.rows)
          (λ r one. subst (λ m. m ≤ (if is_reset_outport r.kind then 2 else 1)) (stores-same (value_name r.row)) one) h.values;
      functions =
          each-then (λ (u : ChildUse). AllByRecursion (λ (g : Head). call_sites n (of_ticks local xs) g.name ≡ 1)
          (out_heads u.header))
          (λ (u : ChildUse). AllByRecursion (λ (g : Head). call_sites n (of_ticks local (map move xs)) g.name ≡ 1)
          (out_heads u.header)) local.children
          (λ u one. each-then (λ (g : Head). call_sites n (of_ticks local xs) g.name ≡ 1)
          (λ (g : Head). call_sites n (of_ticks local (map move xs)) g.name ≡ 1) (out_heads u.header)
          (λ g it. sym (calls-same g.name) ∙ it) one) h.functions;
      updates = each-then (λ (u : ChildUse). call_sites n (of_ticks local xs) (update_name u.header.row) ≡ 1)
          (λ (u : ChildUse). call_sites n (of_ticks local (map move xs)) (update_name u.header.row) ≡ 1) local.children
          (λ u it. sym (calls-same (update_name u.header.row)) ∙ it) h.updates;
    }

  -- ---- What is used

  module _ (n : CodeNames) where
    tested-same : (x : ProcedureTree) → tested_in n (move x) ≡ tested_in n x
    tested-same x =
        let reads : CondTree → List NamedLeaf = λ test. named_leaves n x.params (cond_leaves test) in
        ap (flat_map reads) (tests-moved place x.body) ∙ flat_map-map reads (renumbered_cond place) (tests_in x.body)
        ∙ (λ i. flat_map (λ test. named_leaves n x.params (cond-leaves place test i)) (tests_in x.body))

    pub used-moved : (counters : List (List ℕ)) (xs : List ProcedureTree) → AreUsed n counters xs → AreUsed n counters (map move xs)
    used-moved counters xs h = record {
      called = each-map move (λ (x : ProcedureTree). MatchBool x.private (0 < call_sites n xs x.name) ⊤)
          (λ (x : ProcedureTree). MatchBool x.private (0 < call_sites n (map move xs) x.name) ⊤) xs
          (λ x some. subst (λ k. MatchBool x.private (0 < k) ⊤) (sites-same n xs x.name) some) h.called;
      read = subst (λ leaves. AllByRecursion (λ name. Contains leaves (own name)) counters)
          (sym (flat_map-map (tested_in n) move xs ∙ (λ i. flat_map (λ x. tested-same x i) xs))) h.read;
    }

  -- ---- What procedures store, themselves or through private ones

  module _ (private : ℕ → Bool) (field : ℕ → ℕ → List ℕ) where
    abbrev name_of : ProcedureTree → ℕ → List ℕ
    name_of x f = field x.of f

    one-stored : (earlier : List (List (List ℕ))) (x : ProcedureTree) →
        stored_in private name_of earlier (move x) ≡ stored_in private name_of earlier x
    one-stored earlier x =
        ap₂ ◌++◌
        (ap (map (λ (st : StoreSite). field x.of st.field)) (stores-moved place x.body)
        ∙ map-map (λ (st : StoreSite). field x.of st.field) (moved_store place) (stores_in x.body))
        (ap (flat_map (λ (c : CallSite). stored_on private name_of earlier c.procedure c.target)) (calls-moved place x.body)
        ∙ flat_map-map (λ (c : CallSite). stored_on private name_of earlier c.procedure c.target) (moved_call place) (calls_in x.body))

    pub stored-moved : (xs : List ProcedureTree) (earlier : List (List (List ℕ))) →
        stored_names private name_of earlier (map move xs) ≡ stored_names private name_of earlier xs
    stored-moved [] earlier = refl
    stored-moved (x ∷ xs) earlier =
        ap (λ one. stored_names private name_of (earlier ++ one ∷ []) (map move xs)) (one-stored earlier x)
        ∙ stored-moved xs (earlier ++ stored_in private name_of earlier x ∷ [])
