-- Code that is moved keeps the rules of its system, where positions stand for the same names.
use Rattle.std.specs.Prelude.{◌≡◌, ℕ, ◌<◌, ◌≤◌, Bool, not, count_by, ◌||◌, if◌then◌else◌, List, [], ◌∷◌, map, filter, flat_map, Contains, bytes_eq}
use Rattle.std.specs.List.{AllByRecursion, AllZip}
use Rattle.std.proofs.Common.{refl, sym, ap, subst, ◌∙◌}
use Rattle.diagram_blocks.specs.Meaning.{has_value}
use Rattle.diagram_blocks.specs.Kinds.{is_reset_outport}
use Rattle.modules_profile.specs.declared.ChildUse.{ChildUse}
use Rattle.modules_profile.specs.declared.LocalRow.{LocalRow}
use Rattle.modules_profile.specs.LocalSystem.{LocalSystem}
use Rattle.modules_profile.proofs.lemmas.LawfulSteps.{of-flat_map}
use Rattle.modules_profile.proofs.lemmas.Members.{of-filter}
use Rattle.c_syntax.specs.declared.Leaf.{Leaf}
use Rattle.c_syntax.specs.declared.Target.{Target}
use Rattle.c_syntax.specs.declared.Target.TheVariants.{Own, Child}
use Rattle.c_syntax.specs.Tree.{ExprTree, CondTree, ParamTree, ProcedureTree}
use Rattle.emit_shape.specs.NamedLeaf.{NamedLeaf, param}
use Rattle.emit_shape.specs.Names.{value_name, update_name, start_name, reset_name}
use Rattle.emit_shape.specs.Heads.{Head, out_heads}
use Rattle.emit_shape.specs.CodeNames.{CodeNames, named_leaf, named_leaves, IsReadOf}
use Rattle.emit_shape.specs.Reads.{StoreSite, IndexSite, CallSite, expr_leaves, cond_leaves, stores_in, tests_in, calls_in, indices_in}
use Rattle.emit_shape.specs.Relocation.{Relocation, moved_number, moved_leaf, moved_expr, moved_cond, moved_procedure}
use Rattle.emit_shape.specs.Rules.{store_reads, index_reads, test_reads, passed, IsRightCall, KeepsRules}
use Rattle.emit_shape.specs.Once.{of_ticks, store_sites, call_sites, StatesOnce}
use Rattle.right_linking.proofs.lemmas.AssembledPlaces.{member}
use Rattle.right_program_interfaces.proofs.AllowedReads.{IsNamed, store-named, index-named, test-named, passed-named}
use Rattle.right_program_interfaces.proofs.Lists.{each, each-mapped, filter-map, count-mapped}
use Rattle.right_program_interfaces.proofs.MovedSites.{moved_store, moved_index, moved_call, expr-leaves, cond-leaves, stores-moved, tests-moved, calls-moved, indices-moved, all-stores, all-calls}

module _ (n l : CodeNames) (m : Relocation) (count : ℕ)
    (own-same : (f : ℕ) → n.own f ≡ l.own f)
    (leaf-same : (params : List ParamTree) (leaf : Leaf) → IsNamed (named_leaf l params leaf) → named_leaf n params (moved_leaf m leaf)
    ≡ named_leaf l params leaf)
    (callee-same : (k : ℕ) → k < count → n.callee (moved_number m k) ≡ l.callee k) where
  -- ---- Reads

  module _ (params : List ParamTree) where
    leaves-kept : (allowed : List NamedLeaf) → AllByRecursion IsNamed allowed → (leaves : List Leaf) →
        AllByRecursion (Contains allowed) (named_leaves l params leaves) → AllByRecursion (Contains allowed)
        (named_leaves n params (map (moved_leaf m) leaves))
    leaves-kept allowed named [] all = tt
    leaves-kept allowed named (x ∷ leaves) all =
        let is = member IsNamed allowed (named_leaf l params x) named all.0 in
        (subst (Contains allowed) (sym (leaf-same params x is)) all.0, leaves-kept allowed named leaves all.1)

    expr-kept : (allowed : List NamedLeaf) → AllByRecursion IsNamed allowed → (e : ExprTree) →
        AllByRecursion (Contains allowed) (named_leaves l params (expr_leaves e)) → AllByRecursion (Contains allowed)
        (named_leaves n params (expr_leaves (moved_expr m e)))
    expr-kept allowed named e reads =
        subst (λ leaves. AllByRecursion (Contains allowed) (named_leaves n params leaves)) (sym (expr-leaves m e))
        (leaves-kept allowed named (expr_leaves e) reads)

    cond-kept : (allowed : List NamedLeaf) → AllByRecursion IsNamed allowed → (c : CondTree) →
        AllByRecursion (Contains allowed) (named_leaves l params (cond_leaves c)) → AllByRecursion (Contains allowed)
        (named_leaves n params (cond_leaves (moved_cond m c)))
    cond-kept allowed named c reads =
        subst (λ leaves. AllByRecursion (Contains allowed) (named_leaves n params leaves)) (sym (cond-leaves m c))
        (leaves-kept allowed named (cond_leaves c) reads)

    read-kept : (wanted : NamedLeaf) → IsNamed wanted → (e : ExprTree) → IsReadOf l params wanted e →
        IsReadOf n params wanted (moved_expr m e)
    read-kept wanted named e (x, same, is) = (
      moved_leaf m x,
      ap (moved_expr m) same,
      leaf-same params x (subst IsNamed (sym is) named)
          ∙ is,
    )

  -- ---- Calls

  zip-mapped : {A : Type 0} (P Q : A → ExprTree → Type 0) (xs : List A) (es : List ExprTree) →
      ((x : A) (e : ExprTree) → P x e → Q x (moved_expr m e)) →
      AllZip P xs es → AllZip Q xs (map (moved_expr m) es)
  zip-mapped P Q [] [] gives all = tt
  zip-mapped P Q [] (e ∷ es) gives all = absurd all
  zip-mapped P Q (x ∷ xs) [] gives all = absurd all
  zip-mapped P Q (x ∷ xs) (e ∷ es) gives all = (gives x e all.0, zip-mapped P Q xs es gives all.1)

  module _ (local : LocalSystem) (counters : List (List ℕ)) (q : ProcedureTree) where
    call-kept : (target : Target) (callee : Head) (values : List ExprTree) → IsRightCall l local q target callee values →
        IsRightCall n local (moved_procedure m q) target callee (map (moved_expr m) values)
    call-kept Own callee values right =
        zip-mapped (λ (wanted : ParamTree) e. IsReadOf l q.params (param wanted.name) e)
        (λ (wanted : ParamTree) e. IsReadOf n q.params (param wanted.name) e)
        callee.params values (λ wanted e reads. read-kept q.params (param wanted.name) refl e reads) right
    call-kept (Child f) callee values right = record {
      child = right.child;
      is_child = right.is_child;
      on_child = own-same f ∙ right.on_child;
      is_public = right.is_public;
      passes = zip-mapped (λ (wanted : ParamTree) e. (what : NamedLeaf) × Contains (passed local right.child) (wanted.name, what)
          × IsReadOf l q.params what e)
          (λ (wanted : ParamTree) e. (what : NamedLeaf) × Contains (passed local right.child) (wanted.name, what)
          × IsReadOf n q.params what e)
          callee.params values
          (λ wanted e reads. (
            reads.0,
            reads.1,
            read-kept q.params reads.0 (passed-named local right.child wanted.name reads.0 reads.1) e
                reads.2,
          )) right.passes;
    }

    abbrev RightAt : CodeNames → ProcedureTree → CallSite → Type 0
    RightAt names z c = IsRightCall names local z c.target (names.callee c.procedure) c.values

    calls-kept : (cs : List CallSite) → AllByRecursion (λ (c : CallSite). c.procedure < count) cs → AllByRecursion (RightAt l q) cs →
        AllByRecursion (RightAt n (moved_procedure m q)) (map (moved_call m) cs)
    calls-kept [] within all = tt
    calls-kept (c ∷ cs) within all = (
      subst (λ head. IsRightCall n local (moved_procedure m q) c.target head (map (moved_expr m) c.values))
          (sym (callee-same c.procedure within.0))
          (call-kept c.target (l.callee c.procedure) c.values all.0),
      calls-kept cs within.1 all.1,
    )

    abbrev StoresRead : CodeNames → StoreSite → Type 0
    StoresRead names st = AllByRecursion (Contains (store_reads local counters (names.own st.field)))
        (named_leaves names q.params (expr_leaves st.value))

    abbrev IndexReads : CodeNames → IndexSite → Type 0
    IndexReads names i = AllByRecursion (Contains (index_reads local (names.own i.field)))
        (named_leaves names q.params (expr_leaves i.index))

    abbrev TestReads : CodeNames → CondTree → Type 0
    TestReads names test = AllByRecursion (Contains (test_reads counters)) (named_leaves names q.params (cond_leaves test))

    pub procedure-kept : AllByRecursion (λ (c : CallSite). c.procedure < count) (calls_in q.body) → KeepsRules l local counters q →
        KeepsRules n local counters (moved_procedure m q)
    procedure-kept within rules = record {
      private_name = rules.private_name;
      params = rules.params;
      calls = subst (AllByRecursion (RightAt n (moved_procedure m q))) (sym (calls-moved m q.body))
          (calls-kept (calls_in q.body) within rules.calls);
      stores = subst (AllByRecursion (StoresRead n)) (sym (stores-moved m q.body))
          (each-mapped (StoresRead l) (StoresRead n) (moved_store m) (stores_in q.body)
          (λ st reads. subst (λ name. AllByRecursion (Contains (store_reads local counters name))
          (named_leaves n q.params (expr_leaves (moved_expr m st.value)))) (sym (own-same st.field))
          (expr-kept q.params (store_reads local counters (l.own st.field)) (store-named local counters (l.own st.field)) st.value reads))
          rules.stores);
      indices = subst (AllByRecursion (IndexReads n)) (sym (indices-moved m q.body))
          (each-mapped (IndexReads l) (IndexReads n) (moved_index m) (indices_in q.body)
          (λ i reads. subst (λ name. AllByRecursion (Contains (index_reads local name))
          (named_leaves n q.params (expr_leaves (moved_expr m i.index)))) (sym (own-same i.field))
          (expr-kept q.params (index_reads local (l.own i.field)) (index-named local (l.own i.field)) i.index reads)) rules.indices);
      tests = subst (AllByRecursion (TestReads n)) (sym (tests-moved m q.body))
          (each-mapped (TestReads l) (TestReads n) (moved_cond m) (tests_in q.body)
          (λ test reads. cond-kept q.params (test_reads counters) (test-named counters) test reads) rules.tests);
    }

  -- ---- How often a procedure is called

  pub sites-same : (ps : List ProcedureTree) →
      ((c : CallSite) → Contains (flat_map (λ (q : ProcedureTree). calls_in q.body) ps) c → c.procedure < count) →
      (name : List ℕ) → call_sites n (map (moved_procedure m) ps) name ≡ call_sites l ps name
  sites-same ps inside name =
      ap (count_by (λ (c : CallSite). bytes_eq (n.callee c.procedure).name name)) (all-calls m ps)
      ∙ count-mapped (λ (c : CallSite). bytes_eq (n.callee c.procedure).name name)
      (λ (c : CallSite). bytes_eq (l.callee c.procedure).name name) (moved_call m)
      (flat_map (λ (q : ProcedureTree). calls_in q.body) ps)
      (λ c has. ap (λ (head : Head). bytes_eq head.name name) (callee-same c.procedure (inside c has)))

  -- ---- Statements that are made once

  module _ (local : LocalSystem) (qs : List ProcedureTree)
      (within : AllByRecursion (λ (q : ProcedureTree). AllByRecursion (λ (c : CallSite). c.procedure < count) (calls_in q.body)) qs) where
    abbrev moved : List ProcedureTree
    moved = map (moved_procedure m) qs

    abbrev in_ticks : ProcedureTree → Bool
    in_ticks q = not (bytes_eq q.name (start_name local.row) || bytes_eq q.name (reset_name local.row))

    ticks-moved : of_ticks local moved ≡ map (moved_procedure m) (of_ticks local qs)
    ticks-moved = filter-map in_ticks (moved_procedure m) qs

    stores-same : (name : List ℕ) → store_sites n (of_ticks local moved) name ≡ store_sites l (of_ticks local qs) name
    stores-same name =
        ap (λ ps. store_sites n ps name) ticks-moved
        ∙ ap (count_by (λ (st : StoreSite). bytes_eq (n.own st.field) name)) (all-stores m (of_ticks local qs))
        ∙ count-mapped (λ (st : StoreSite). bytes_eq (n.own st.field) name) (λ (st : StoreSite). bytes_eq (l.own st.field) name)
        (moved_store m)
        (flat_map (λ (q : ProcedureTree). stores_in q.body) (of_ticks local qs))
        (λ st has. ap (λ own. bytes_eq own name) (own-same st.field))

    call-within : (c : CallSite) → Contains (flat_map (λ (q : ProcedureTree). calls_in q.body) (of_ticks local qs)) c → c.procedure < count
    call-within c has =
        let (q, own, there) = of-flat_map (λ (q : ProcedureTree). calls_in q.body) (of_ticks local qs) c has in
        member (λ (z : CallSite). z.procedure < count) (calls_in q.body) c
        (member (λ (z : ProcedureTree). AllByRecursion (λ (c : CallSite). c.procedure < count) (calls_in z.body)) qs q within
        (of-filter in_ticks qs q own).0) there

    calls-same : (name : List ℕ) → call_sites n (of_ticks local moved) name ≡ call_sites l (of_ticks local qs) name
    calls-same name =
        ap (λ ps. call_sites n ps name) ticks-moved ∙ sites-same (of_ticks local qs) call-within name

    pub once-kept : StatesOnce l local qs → StatesOnce n local moved
    once-kept once = record {
      values = each (λ (r : LocalRow). store_sites l (of_ticks local qs) (value_name r.row) ≤ (if is_reset_outport r.kind then 2 else 1))
          (λ (r : LocalRow). store_sites n (of_ticks local moved) (value_name r.row) ≤ (if is_reset_outport r.kind then 2 else 1))
          (filter (λ (r : LocalRow). has_value r.kind) local.rows)
          (λ r has few. subst (λ k. k ≤ (if is_reset_outport r.kind then 2 else 1)) (sym (stores-same (value_name r.row))) few) once.values;
      functions = each (λ (u : ChildUse). AllByRecursion (λ (h : Head). call_sites l (of_ticks local qs) h.name ≡ 1) (out_heads u.header))
          (λ (u : ChildUse). AllByRecursion (λ (h : Head). call_sites n (of_ticks local moved) h.name ≡ 1) (out_heads u.header))
          local.children
          (λ u has all. each (λ (h : Head). call_sites l (of_ticks local qs) h.name ≡ 1)
          (λ (h : Head). call_sites n (of_ticks local moved) h.name ≡ 1) (out_heads u.header)
          (λ h there one. calls-same h.name ∙ one) all) once.functions;
      updates = each (λ (u : ChildUse). call_sites l (of_ticks local qs) (update_name u.header.row) ≡ 1)
          (λ (u : ChildUse). call_sites n (of_ticks local moved) (update_name u.header.row) ≡ 1) local.children
          (λ u has one. calls-same (update_name u.header.row) ∙ one) once.updates;
    }
