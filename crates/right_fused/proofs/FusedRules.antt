-- Procedures keep their rules when they are fused.
use Rattle.std.specs.Prelude.{◌≡◌, ℕ, zero, suc, ◌<◌, ◌≤◌, not, ◌||◌, nat_lt, MatchBool, if◌then◌else◌, Bool, true, false, List, [], ◌∷◌, ◌++◌, map, filter, flat_map, count_by, slice_index_or, Contains, bytes_eq, ⊤}
use Rattle.std.specs.List.{AllByRecursion, AllZip, list_any}
use Rattle.std.proofs.Common.{refl, sym, ap, ap₂, subst, ◌∙◌}
use Rattle.std.proofs.lemmas.List.Folds.{flat_map-map, list_any-append}
use Rattle.diagram_blocks.specs.Meaning.{has_value}
use Rattle.diagram_blocks.specs.Kinds.{is_reset_outport}
use Rattle.modules_profile.specs.declared.ChildUse.{ChildUse}
use Rattle.modules_profile.specs.declared.LocalRow.{LocalRow}
use Rattle.modules_profile.specs.LocalSystem.{LocalSystem}
use Rattle.c_syntax.specs.declared.code.Target.{Target}
use Rattle.c_syntax.specs.declared.code.Target.TheVariants.{Own, Child}
use Rattle.c_syntax.specs.Tree.{ExprTree, CondTree, ParamTree, ProcedureTree}
use Rattle.emit_shape.specs.NamedLeaf.{NamedLeaf, param, own}
use Rattle.emit_shape.specs.Names.{value_name, start_name, reset_name, update_name}
use Rattle.emit_shape.specs.Heads.{Head, out_heads}
use Rattle.emit_shape.specs.CodeNames.{CodeNames, named_leaf, named_leaves, IsReadOf}
use Rattle.emit_shape.specs.Reads.{StoreSite, IndexSite, CallSite, stores_in, tests_in, calls_in, expr_leaves, cond_leaves}
use Rattle.emit_shape.specs.Rules.{passed, IsRightCall, store_reads, index_reads, test_reads, KeepsRules}
use Rattle.emit_shape.specs.Once.{of_ticks, store_sites, call_sites, StatesOnce}
use Rattle.emit_shape.specs.Used.{tested_in, AreUsed}
use Rattle.emit_shape.specs.Stored.{stored_on, stored_in, stored_names}
use Rattle.emit_pruned.proofs.lemmas.Numbers.{each-then, all-parts, all-whole}
use Rattle.emit_fused.specs.Simplified.{simplified_expr}
use Rattle.emit_fused.specs.Fused.{fused_procedure}
use Rattle.right_pruned.proofs.lemmas.Lists.{each-map, member, zip-map, filter-map}
use Rattle.right_fused.proofs.lemmas.Lists.{map-each, each-in, zip-push, any-map, any-flat, any-count, count-flat}
use Rattle.right_fused.proofs.FusedReads.{leaves-left}
use Rattle.right_fused.proofs.FusedBodies.{stores-fused, store-count, calls-fused, call-count, indices-fused, tests-fused, tests-back}

-- ---- What is read

-- a plain read is one of the same
pub read-left : (n : CodeNames) (params : List ParamTree) (what : NamedLeaf) (e : ExprTree) →
    IsReadOf n params what e → IsReadOf n params what (simplified_expr e)
read-left n params what e (leaf, is, named) = (leaf, ap simplified_expr is, named)

pub named-left : (n : CodeNames) (params : List ParamTree) (P : NamedLeaf → Type 0) (e : ExprTree) →
    AllByRecursion P (named_leaves n params (expr_leaves e)) → AllByRecursion P (named_leaves n params (expr_leaves (simplified_expr e)))
named-left n params P e h =
    each-map (named_leaf n params) (λ l. P (named_leaf n params l)) P (expr_leaves (simplified_expr e)) (λ l one. one)
    (leaves-left (λ l. P (named_leaf n params l)) e (map-each (named_leaf n params) P (expr_leaves e) h))

-- what a call passes is a matter of the parameters of the procedure, which stay
as-fused : (n : CodeNames) (local : LocalSystem) (x : ProcedureTree) (callee : Head) (target : Target) (values : List ExprTree) →
    IsRightCall n local x target callee values → IsRightCall n local (fused_procedure x) target callee values
as-fused n local x callee Own values h = h
as-fused n local x callee (Child f) values h = record {
  child = h.child;
  is_child = h.is_child;
  on_child = h.on_child;
  is_public = h.is_public;
  passes = h.passes;
}

passing : (n : CodeNames) (local : LocalSystem) (x : ProcedureTree) (callee : Head) (target : Target) (values : List ExprTree) →
    IsRightCall n local x target callee values → IsRightCall n local x target callee (map simplified_expr values)
passing n local x callee Own values h =
    zip-map simplified_expr (λ (wanted : ParamTree) e. IsReadOf n x.params (param wanted.name) e)
    (λ (wanted : ParamTree) e. IsReadOf n x.params (param wanted.name) e)
    (λ wanted e one. read-left n x.params (param wanted.name) e one) callee.params values h
passing n local x callee (Child f) values h = record {
  child = h.child;
  is_child = h.is_child;
  on_child = h.on_child;
  is_public = h.is_public;
  passes = zip-map simplified_expr
      (λ (wanted : ParamTree) e. (what : NamedLeaf) × Contains (passed local h.child) (wanted.name, what) × IsReadOf n x.params what e)
      (λ (wanted : ParamTree) e. (what : NamedLeaf) × Contains (passed local h.child) (wanted.name, what) × IsReadOf n x.params what e)
      (λ wanted e (what, there, is). (what, there, read-left n x.params what e is)) callee.params values h.passes;
}

pub keeps : (n : CodeNames) (local : LocalSystem) (counters : List (List ℕ)) (x : ProcedureTree) →
    KeepsRules n local counters x → KeepsRules n local counters (fused_procedure x)
keeps n local counters x h = record {
  private_name = h.private_name;
  params = h.params;
  calls = calls-fused (λ (c : CallSite). IsRightCall n local (fused_procedure x) c.target (n.callee c.procedure) c.values)
      (λ c one. passing n local (fused_procedure x) (n.callee c.procedure) c.target c.values one) x.body
      (each-then (λ (c : CallSite). IsRightCall n local x c.target (n.callee c.procedure) c.values)
      (λ (c : CallSite). IsRightCall n local (fused_procedure x) c.target (n.callee c.procedure) c.values) (calls_in x.body)
      (λ c one. as-fused n local x (n.callee c.procedure) c.target c.values one) h.calls);
  stores =
      stores-fused (λ (st : StoreSite). AllByRecursion (Contains (store_reads local counters (n.own st.field)))
      (named_leaves n x.params (expr_leaves st.value)))
      (λ f e one. named-left n x.params (Contains (store_reads local counters (n.own f))) e one) x.body h.stores;
  indices =
      indices-fused (λ (i : IndexSite). AllByRecursion (Contains (index_reads local (n.own i.field)))
      (named_leaves n x.params (expr_leaves i.index)))
      (λ i one. named-left n x.params (Contains (index_reads local (n.own i.field))) i.index one) x.body h.indices;
  tests = tests-fused (λ (test : CondTree). AllByRecursion (Contains (test_reads counters)) (named_leaves n x.params (cond_leaves test)))
      x.body h.tests;
}

-- ---- How often is stored and called

pub store-sites : (n : CodeNames) (xs : List ProcedureTree) (name : List ℕ) →
    store_sites n (map fused_procedure xs) name ≡ store_sites n xs name
store-sites n xs name =
    let passes : ℕ → Bool = λ f. bytes_eq (n.own f) name in
    ap (count_by (λ (st : StoreSite). passes st.field)) (flat_map-map (λ (x : ProcedureTree). stores_in x.body) fused_procedure xs)
    ∙ count-flat (λ (x : ProcedureTree). stores_in (fused_procedure x).body) (λ (x : ProcedureTree). stores_in x.body)
    (λ (st : StoreSite). passes st.field) (λ (st : StoreSite). passes st.field) xs (λ x. store-count passes x.body)

pub call-sites : (n : CodeNames) (xs : List ProcedureTree) (name : List ℕ) →
    call_sites n (map fused_procedure xs) name ≡ call_sites n xs name
call-sites n xs name =
    let passes : ℕ → Target → Bool = λ k target. bytes_eq (n.callee k).name name in
    ap (count_by (λ (c : CallSite). passes c.procedure c.target)) (flat_map-map (λ (x : ProcedureTree). calls_in x.body) fused_procedure xs)
    ∙ count-flat (λ (x : ProcedureTree). calls_in (fused_procedure x).body) (λ (x : ProcedureTree). calls_in x.body)
    (λ (c : CallSite). passes c.procedure c.target) (λ (c : CallSite). passes c.procedure c.target) xs (λ x. call-count passes x.body)

module _ (n : CodeNames) (local : LocalSystem) (xs : List ProcedureTree) where
  ticks-fused : of_ticks local (map fused_procedure xs) ≡ map fused_procedure (of_ticks local xs)
  ticks-fused =
      filter-map fused_procedure (λ (x : ProcedureTree). not (bytes_eq x.name (start_name local.row) || bytes_eq x.name (reset_name local.row))) xs

  stores-same : (name : List ℕ) → store_sites n (of_ticks local xs) name ≡ store_sites n (of_ticks local (map fused_procedure xs)) name
  stores-same name = sym (ap (λ qs. store_sites n qs name) ticks-fused ∙ store-sites n (of_ticks local xs) name)

  calls-same : (name : List ℕ) → call_sites n (of_ticks local xs) name ≡ call_sites n (of_ticks local (map fused_procedure xs)) name
  calls-same name = sym (ap (λ qs. call_sites n qs name) ticks-fused ∙ call-sites n (of_ticks local xs) name)

  pub once-fused : StatesOnce n local xs → StatesOnce n local (map fused_procedure xs)
  once-fused h = record {
    values =
        each-then (λ (r : LocalRow). store_sites n (of_ticks local xs) (value_name r.row) ≤ (if is_reset_outport r.kind then 2 else 1))
        (λ (r : LocalRow). store_sites n (of_ticks local (map fused_procedure xs)) (value_name r.row)
        ≤ (if is_reset_outport r.kind then 2 else 1)) (filter (λ (r : LocalRow). has_value r.kind) local.rows)
        (λ r one. subst (λ m. m ≤ (if is_reset_outport r.kind then 2 else 1)) (stores-same (value_name r.row)) one) h.values;
    functions =
        each-then (λ (u : ChildUse). AllByRecursion (λ (g : Head). call_sites n (of_ticks local xs) g.name ≡ 1) (out_heads u.header))
        (λ (u : ChildUse). AllByRecursion (λ (g : Head). call_sites n (of_ticks local (map fused_procedure xs)) g.name ≡ 1)
        (out_heads u.header)) local.children
        (λ u one. each-then (λ (g : Head). call_sites n (of_ticks local xs) g.name ≡ 1)
        (λ (g : Head). call_sites n (of_ticks local (map fused_procedure xs)) g.name ≡ 1) (out_heads u.header)
        (λ g it. sym (calls-same g.name) ∙ it) one) h.functions;
    updates = each-then (λ (u : ChildUse). call_sites n (of_ticks local xs) (update_name u.header.row) ≡ 1)
        (λ (u : ChildUse). call_sites n (of_ticks local (map fused_procedure xs)) (update_name u.header.row) ≡ 1) local.children
        (λ u it. sym (calls-same (update_name u.header.row)) ∙ it) h.updates;
  }

-- ---- What is used

module _ (n : CodeNames) (P : NamedLeaf → Type 0) where
  -- what holds of all that the tests of fused procedures read holds of what they read before
  tested-back : (x : ProcedureTree) → AllByRecursion P (tested_in n (fused_procedure x)) → AllByRecursion P (tested_in n x)
  tested-back x h =
      let reads : CondTree → List NamedLeaf = λ test. named_leaves n x.params (cond_leaves test) in
      all-whole P reads (tests_in x.body)
      (tests-back (λ test. AllByRecursion P (reads test))
      (λ a b same one. subst (λ leaves. AllByRecursion P (named_leaves n x.params leaves)) same one) x.body
      (all-parts P reads (tests_in (fused_procedure x).body) h))

  all-tested-back : (xs : List ProcedureTree) → AllByRecursion P (flat_map (tested_in n) (map fused_procedure xs)) →
      AllByRecursion P (flat_map (tested_in n) xs)
  all-tested-back xs h =
      all-whole P (tested_in n) xs
      (each-then (λ (x : ProcedureTree). AllByRecursion P (tested_in n (fused_procedure x)))
      (λ (x : ProcedureTree). AllByRecursion P (tested_in n x)) xs (λ x one. tested-back x one)
      (map-each fused_procedure (λ (x : ProcedureTree). AllByRecursion P (tested_in n x)) xs
      (all-parts P (tested_in n) (map fused_procedure xs) h)))

pub used-fused : (n : CodeNames) (counters : List (List ℕ)) (xs : List ProcedureTree) → AreUsed n counters xs →
    AreUsed n counters (map fused_procedure xs)
used-fused n counters xs h =
    let left = flat_map (tested_in n) (map fused_procedure xs) in record {
      called = each-map fused_procedure (λ (x : ProcedureTree). MatchBool x.private (0 < call_sites n xs x.name) ⊤)
          (λ (x : ProcedureTree). MatchBool x.private (0 < call_sites n (map fused_procedure xs) x.name) ⊤) xs
          (λ x some. subst (λ k. MatchBool x.private (0 < k) ⊤) (sym (call-sites n xs x.name)) some) h.called;
      read = each-then (λ name. Contains (flat_map (tested_in n) xs) (own name)) (λ name. Contains left (own name)) counters
          (λ name there.
          member (Contains left) (flat_map (tested_in n) xs) (own name)
          (all-tested-back n (Contains left) xs (each-in (Contains left) left (λ leaf has. has))) there) h.read;
    }

-- ---- What procedures store, themselves or through private ones

module _ (private : ℕ → Bool) (field : ℕ → ℕ → List ℕ) (name : List ℕ) where
  abbrev name_of : ProcedureTree → ℕ → List ℕ
  name_of x f = field x.of f

  abbrev has : List (List ℕ) → Bool
  has names = list_any (bytes_eq name) names

  -- both lists have the name, or neither
  abbrev HaveAlike : List (List ℕ) → List (List ℕ) → Type 0
  HaveAlike names others = has others ≡ has names

  -- the names at a place
  alike-at : (earlier others : List (List (List ℕ))) (k : ℕ) → AllZip HaveAlike earlier others →
      has (slice_index_or others k []) ≡ has (slice_index_or earlier k [])
  alike-at [] [] k h = refl
  alike-at [] (y ∷ ys) k h = absurd h
  alike-at (x ∷ xs) [] k h = absurd h
  alike-at (x ∷ xs) (y ∷ ys) zero h = h.0
  alike-at (x ∷ xs) (y ∷ ys) (suc k) h = alike-at xs ys k h.1

  on-alike : (earlier others : List (List (List ℕ))) (k : ℕ) (target : Target) → AllZip HaveAlike earlier others →
      has (stored_on private name_of others k target) ≡ has (stored_on private name_of earlier k target)
  on-alike earlier others k Own h = by (private k)
    where
      by : (b : Bool) → has (if b then slice_index_or others k [] else []) ≡ has (if b then slice_index_or earlier k [] else [])
      by true = alike-at earlier others k h
      by false = refl
  on-alike earlier others k (Child f) h = refl

  one-stored : (earlier others : List (List (List ℕ))) (x : ProcedureTree) → AllZip HaveAlike earlier others →
      HaveAlike (stored_in private name_of earlier x) (stored_in private name_of others (fused_procedure x))
  one-stored earlier others x h =
      let names : StoreSite → List ℕ = λ st. field x.of st.field in
      let through : List (List (List ℕ)) → CallSite → List (List ℕ) = λ list c. stored_on private name_of list c.procedure c.target in
      let calls = calls_in x.body in
      let left = calls_in (fused_procedure x).body in
      let stores = stores_in x.body in
      let kept = stores_in (fused_procedure x).body in
      let passes : ℕ → Bool = λ f. bytes_eq name (field x.of f) in
      let calling : ℕ → Target → Bool = λ k target. has (stored_on private name_of earlier k target) in
      let here : has (map names kept) ≡ has (map names stores) =
      any-map names (bytes_eq name) kept ∙ any-count (λ (st : StoreSite). passes st.field) kept ∙ ap (nat_lt 0) (store-count passes x.body)
      ∙ sym (any-count (λ (st : StoreSite). passes st.field) stores) ∙ sym (any-map names (bytes_eq name) stores) in
      let there : has (flat_map (through others) left) ≡ has (flat_map (through earlier) calls) =
      any-flat (through others) (bytes_eq name) left ∙ (λ i. list_any (λ (c : CallSite). on-alike earlier others c.procedure c.target h i) left)
      ∙ any-count (λ (c : CallSite). calling c.procedure c.target) left ∙ ap (nat_lt 0) (call-count calling x.body)
      ∙ sym (any-count (λ (c : CallSite). calling c.procedure c.target) calls) ∙ sym (any-flat (through earlier) (bytes_eq name) calls) in
      list_any-append (bytes_eq name) (map names kept) (flat_map (through others) left) ∙ ap₂ ◌||◌ here there
      ∙ sym (list_any-append (bytes_eq name) (map names stores) (flat_map (through earlier) calls))

  pub stored-fused : (xs : List ProcedureTree) (earlier others : List (List (List ℕ))) → AllZip HaveAlike earlier others →
      AllZip HaveAlike (stored_names private name_of earlier xs) (stored_names private name_of others (map fused_procedure xs))
  stored-fused [] earlier others h = h
  stored-fused (x ∷ xs) earlier others h =
      stored-fused xs (earlier ++ stored_in private name_of earlier x ∷ [])
      (others ++ stored_in private name_of others (fused_procedure x) ∷ [])
      (zip-push HaveAlike earlier others (stored_in private name_of earlier x) (stored_in private name_of others (fused_procedure x)) h
      (one-stored earlier others x h))

  pub stored-at : (xs : List ProcedureTree) (k : ℕ) →
      has (slice_index_or (stored_names private name_of [] (map fused_procedure xs)) k [])
      ≡ has (slice_index_or (stored_names private name_of [] xs) k [])
  stored-at xs k =
      alike-at (stored_names private name_of [] xs) (stored_names private name_of [] (map fused_procedure xs)) k (stored-fused xs [] [] tt)
