-- The shape and the interfaces of a program mean nothing by its lines.
use Rattle.std.specs.Prelude.{◌≡◌, ◌⊎◌, ℕ, zero, suc, ◌<◌, ◌≤◌, ◌==◌, not, Bool, true, false, cond, ◌||◌, if◌then◌else◌, MatchBool, List, [], ◌∷◌, ◌++◌, map, filter, flat_map, count_by, drop, length, slice_index_or, Contains, IsPermutation, Option, None, ⊤, bytes_eq}
use Rattle.std.specs.List.{AllByRecursion, AllZip, list_any, enumerate_from, swap}
use Rattle.std.proofs.Common.{refl, sym, ap, ap₂, subst, ◌∙◌, arith, inl, inr}
use Rattle.std.proofs.lemmas.List.Sorted.{IsPermutation-refl, IsPermutation-keeps}
use Rattle.diagram_blocks.specs.Meaning.{has_value}
use Rattle.diagram_meaning.specs.Rows.{outports_of, system_control}
use Rattle.diagram_meaning.specs.Inputs.{input_ports}
use Rattle.diagram_meaning.specs.Diagram.{Diagram}
use Rattle.diagram_meaning.specs.ResolvedTable.{diagram_of_table}
use Rattle.c_semantics.specs.LinesAside.{LinesMeanNothing}
use Rattle.diagram_blocks.specs.Kinds.{is_reset_outport}
use Rattle.modules_profile.specs.declared.ChildUse.{ChildUse}
use Rattle.modules_profile.specs.declared.LocalRow.{LocalRow}
use Rattle.modules_profile.specs.LocalSystem.{LocalSystem}
use Rattle.base_core.specs.Ports.{ports_mask}
use Rattle.modules_profile.specs.Systems.{systems, system_name}
use Rattle.modules_profile.specs.Locals.{own_header}
use Rattle.c_syntax.specs.declared.Target.{Target}
use Rattle.c_syntax.specs.declared.Target.TheVariants.{Own, Child}
use Rattle.c_syntax.specs.Tree.{ExprTree, StmtTree, assign, assign_at, branch, call, StmtTrees, no_stmts, more_stmts, list_of_stmts, list_of_exprs, StructTree, struct_fields, no_struct, ParamTree, PureTree, ProcedureTree, ProgramTree}
use Rattle.c_syntax.specs.RootFields.{root_struct}
use Rattle.c_syntax.specs.Lawful.{stmt_without_lines, stmts_without_lines, pure_without_lines, procedure_without_lines, without_lines}
use Rattle.emit_prelude.specs.Bodies.{function_trees}
use Rattle.emit_shape.specs.NamedLeaf.{NamedLeaf, param, own, child}
use Rattle.emit_shape.specs.Names.{value_name, port_name, start_name, reset_name, update_name, group_name, now_name, root_name}
use Rattle.c_syntax.specs.Outputs.{output_name}
use Rattle.modules_profile.specs.Headers.{header_of}
use Rattle.emit_shape.specs.Heads.{Head, head_of, out_heads, public_heads}
use Rattle.emit_shape.specs.CodeNames.{CodeNames, named_fields, named_leaves, IsReadOf}
use Rattle.emit_shape.specs.Reads.{StoreSite, IndexSite, CallSite, stmt_stores, stores_in, stmt_tests, tests_in, stmt_calls, calls_in, stmt_indices, indices_in, expr_leaves, cond_leaves, cond_indices}
use Rattle.emit_shape.specs.Rules.{parameter_names, passed, IsRightCall, store_reads, index_reads, test_reads, KeepsRules}
use Rattle.emit_shape.specs.Once.{of_ticks, call_sites, StatesOnce}
use Rattle.emit_shape.specs.Used.{tested_in, AreUsed}
use Rattle.emit_shape.specs.Stored.{stored_on, stored_in, stored_names, has_stored}
use Rattle.emit_shape.specs.Slots.{counters_in}
use Rattle.emit_shape.specs.Programs.{procedure_at, no_procedure, field_in, no_field, kind_fields, names_in, procedures_of, struct_place}
use Rattle.emit_shape.specs.Faces.{out_places, stores, takes, HasLeastInterface}
use Rattle.emit_shape.specs.RootCode.{RootStep, calls, copies, moves_on, start_steps, tick_steps, IsPassed, MovesOn, DoesCall, DoesStore, Does, is_literal_store, BeginsTick, root_fields_of, HasRootCode}
use Rattle.emit_shape.specs.ProgramShape.{viewed, HasSystemShape, HasShape}
use Rattle.right_claim.specs.Anew.{RenewsAll}
use Rattle.right_claim.specs.Right.{AnswersAnyOrder}
use Rattle.right_claim.specs.LineLaws.{ShapeMeansNoLines, TextOfCodeIsRight}
use Rattle.right_claim.proofs.lemmas.AlikePrograms.{each-then}
use Rattle.right_claim.proofs.RowLines.{out_places-aside, rows_mean_no_lines, renewals_mean_no_lines}

-- ---- What bodies store, test, call and index

mutual
  stmt-stores : (x : StmtTree) → stmt_stores (stmt_without_lines x) ≡ stmt_stores x
  stmt-stores (assign line f value) = refl
  stmt-stores (assign_at line f index value) = refl
  stmt-stores (branch line test on_true on_false) = ap₂ ◌++◌ (stores-aside on_true) (stores-aside on_false)
  stmt-stores (call line k target es) = refl

  stores-aside : (xs : StmtTrees) → stores_in (stmts_without_lines xs) ≡ stores_in xs
  stores-aside no_stmts = refl
  stores-aside (more_stmts x xs) = ap₂ ◌++◌ (stmt-stores x) (stores-aside xs)

mutual
  stmt-tests : (x : StmtTree) → stmt_tests (stmt_without_lines x) ≡ stmt_tests x
  stmt-tests (assign line f value) = refl
  stmt-tests (assign_at line f index value) = refl
  stmt-tests (branch line test on_true on_false) = ap₂ (λ xs ys. test ∷ xs ++ ys) (tests-aside on_true) (tests-aside on_false)
  stmt-tests (call line k target es) = refl

  tests-aside : (xs : StmtTrees) → tests_in (stmts_without_lines xs) ≡ tests_in xs
  tests-aside no_stmts = refl
  tests-aside (more_stmts x xs) = ap₂ ◌++◌ (stmt-tests x) (tests-aside xs)

mutual
  stmt-calls : (x : StmtTree) → stmt_calls (stmt_without_lines x) ≡ stmt_calls x
  stmt-calls (assign line f value) = refl
  stmt-calls (assign_at line f index value) = refl
  stmt-calls (branch line test on_true on_false) = ap₂ ◌++◌ (calls-aside on_true) (calls-aside on_false)
  stmt-calls (call line k target es) = refl

  calls-aside : (xs : StmtTrees) → calls_in (stmts_without_lines xs) ≡ calls_in xs
  calls-aside no_stmts = refl
  calls-aside (more_stmts x xs) = ap₂ ◌++◌ (stmt-calls x) (calls-aside xs)

mutual
  stmt-indices : (x : StmtTree) → stmt_indices (stmt_without_lines x) ≡ stmt_indices x
  stmt-indices (assign line f value) = refl
  stmt-indices (assign_at line f index value) = refl
  stmt-indices (branch line test on_true on_false) =
      ap₂ (λ xs ys. cond_indices test ++ xs ++ ys) (indices-aside on_true) (indices-aside on_false)
  stmt-indices (call line k target es) = refl

  indices-aside : (xs : StmtTrees) → indices_in (stmts_without_lines xs) ≡ indices_in xs
  indices-aside no_stmts = refl
  indices-aside (more_stmts x xs) = ap₂ ◌++◌ (stmt-indices x) (indices-aside xs)

-- ---- Two procedures that differ in lines alone

abbrev Alike : ProcedureTree → ProcedureTree → Type 0
Alike q r = procedure_without_lines q ≡ procedure_without_lines r

module _ (q r : ProcedureTree) (alike : Alike q r) where
  same-head : head_of q ≡ head_of r
  same-head = ap head_of alike

  same-of : q.of ≡ r.of
  same-of = ap (λ (x : ProcedureTree). x.of) alike

  same-params : q.params ≡ r.params
  same-params = ap (λ (x : ProcedureTree). x.params) alike

  same-name : q.name ≡ r.name
  same-name = ap (λ (x : ProcedureTree). x.name) alike

  same-stores : stores_in q.body ≡ stores_in r.body
  same-stores = sym (stores-aside q.body) ∙ ap (λ (x : ProcedureTree). stores_in x.body) alike ∙ stores-aside r.body

  same-tests : tests_in q.body ≡ tests_in r.body
  same-tests = sym (tests-aside q.body) ∙ ap (λ (x : ProcedureTree). tests_in x.body) alike ∙ tests-aside r.body

  same-calls : calls_in q.body ≡ calls_in r.body
  same-calls = sym (calls-aside q.body) ∙ ap (λ (x : ProcedureTree). calls_in x.body) alike ∙ calls-aside r.body

  same-indices : indices_in q.body ≡ indices_in r.body
  same-indices = sym (indices-aside q.body) ∙ ap (λ (x : ProcedureTree). indices_in x.body) alike ∙ indices-aside r.body

-- what a call is right by is its caller's parameters
passing : (n : CodeNames) (local : LocalSystem) (q r : ProcedureTree) → q.params ≡ r.params → (c : CallSite) →
    IsRightCall n local q c.target (n.callee c.procedure) c.values →
    IsRightCall n local r c.target (n.callee c.procedure) c.values
passing n local q r same c = by c.target
  where
    by : (target : Target) → IsRightCall n local q target (n.callee c.procedure) c.values →
        IsRightCall n local r target (n.callee c.procedure) c.values
    by Own h =
        subst (λ ps. AllZip (λ (wanted : ParamTree) e. IsReadOf n ps (param wanted.name) e)
        (n.callee c.procedure).params c.values) same h
    by (Child f) h = record {
      child = h.child;
      is_child = h.is_child;
      on_child = h.on_child;
      is_public = h.is_public;
      passes =
          subst (λ ps. AllZip (λ (wanted : ParamTree) e. (what : NamedLeaf)
          × Contains (passed local h.child) (wanted.name, what) × IsReadOf n ps what e)
          (n.callee c.procedure).params c.values) same h.passes;
    }

keeps : (n : CodeNames) (local : LocalSystem) (counters : List (List ℕ)) (q r : ProcedureTree) → Alike q r →
    KeepsRules n local counters q → KeepsRules n local counters r
keeps n local counters q r alike h =
    let head = same-head q r alike in
    let params = same-params q r alike in record {
      private_name = subst (λ (x : Head). MatchBool x.private ((g : ℕ) × (x.name ≡ group_name local.row g)) ⊤) head h.private_name;
      params =
          subst (λ (x : Head). MatchBool x.private
          (AllByRecursion (λ (p : ParamTree). Contains (parameter_names local) p.name) x.params) ⊤) head h.params;
      calls = subst (AllByRecursion (λ (c : CallSite). IsRightCall n local r c.target (n.callee c.procedure) c.values))
          (same-calls q r alike)
          (each-then (λ (c : CallSite). IsRightCall n local q c.target (n.callee c.procedure) c.values)
          (λ (c : CallSite). IsRightCall n local r c.target (n.callee c.procedure) c.values) (calls_in q.body)
          (λ c one. passing n local q r params c one) h.calls);
      stores =
          subst (AllByRecursion
          (λ (st : StoreSite). AllByRecursion (Contains (store_reads local counters (n.own st.field)))
          (named_leaves n r.params (expr_leaves st.value)))) (same-stores q r alike)
          (subst (λ ps.
          AllByRecursion
          (λ (st : StoreSite). AllByRecursion (Contains (store_reads local counters (n.own st.field)))
          (named_leaves n ps (expr_leaves st.value))) (stores_in q.body)) params h.stores);
      indices =
          subst (AllByRecursion (λ (i : IndexSite). AllByRecursion (Contains (index_reads local (n.own i.field)))
          (named_leaves n r.params (expr_leaves i.index)))) (same-indices q r alike)
          (subst (λ ps.
          AllByRecursion (λ (i : IndexSite). AllByRecursion (Contains (index_reads local (n.own i.field)))
          (named_leaves n ps (expr_leaves i.index))) (indices_in q.body)) params h.indices);
      tests = subst
          (AllByRecursion
          (λ test. AllByRecursion (Contains (test_reads counters)) (named_leaves n r.params (cond_leaves test))))
          (same-tests q r alike)
          (subst (λ ps.
          AllByRecursion
          (λ test. AllByRecursion (Contains (test_reads counters)) (named_leaves n ps (cond_leaves test)))
          (tests_in q.body)) params h.tests);
    }

-- ---- Lists of procedures

all-alike : (qs rs : List ProcedureTree) → map procedure_without_lines qs ≡ map procedure_without_lines rs → AllZip Alike qs rs
all-alike [] [] e = tt
all-alike [] (r ∷ rs) e = absurd (let wrong : ⊥ = cc e in wrong)
all-alike (q ∷ qs) [] e = absurd (let wrong : ⊥ = cc e in wrong)
all-alike (q ∷ qs) (r ∷ rs) e =
    (ap (λ (xs : List ProcedureTree). slice_index_or xs 0 (procedure_without_lines q)) e, all-alike qs rs (ap (drop 1) e))

alike-at : (qs rs : List ProcedureTree) (k : ℕ) (d : ProcedureTree) → AllZip Alike qs rs →
    Alike (slice_index_or qs k d) (slice_index_or rs k d)
alike-at [] [] k d h = refl
alike-at [] (r ∷ rs) k d h = absurd h
alike-at (q ∷ qs) [] k d h = absurd h
alike-at (q ∷ qs) (r ∷ rs) zero d h = h.0
alike-at (q ∷ qs) (r ∷ rs) (suc k) d h = alike-at qs rs k d h.1

-- what is the same of alike procedures is the same of lists of them
map-alike : {A : Type 0} (f : ProcedureTree → A) → ((q r : ProcedureTree) → Alike q r → f q ≡ f r) →
    (qs rs : List ProcedureTree) → AllZip Alike qs rs → map f qs ≡ map f rs
map-alike f same [] [] h = refl
map-alike f same [] (r ∷ rs) h = absurd h
map-alike f same (q ∷ qs) [] h = absurd h
map-alike f same (q ∷ qs) (r ∷ rs) h = ap₂ ◌∷◌ (same q r h.0) (map-alike f same qs rs h.1)

kept-alike : (test : ProcedureTree → Bool) → ((q r : ProcedureTree) → Alike q r → test q ≡ test r) →
    (qs rs : List ProcedureTree) → AllZip Alike qs rs → AllZip Alike (filter test qs) (filter test rs)
kept-alike test same [] [] h = tt
kept-alike test same [] (r ∷ rs) h = absurd h
kept-alike test same (q ∷ qs) [] h = absurd h
kept-alike test same (q ∷ qs) (r ∷ rs) h =
    subst (λ b. AllZip Alike (cond (test q) (q ∷ filter test qs) (filter test qs))
    (cond b (r ∷ filter test rs) (filter test rs))) (same q r h.0) (by (test q) (kept-alike test same qs rs h.1))
  where
    by : (b : Bool) → AllZip Alike (filter test qs) (filter test rs) →
        AllZip Alike (cond b (q ∷ filter test qs) (filter test qs)) (cond b (r ∷ filter test rs) (filter test rs))
    by true rest = (h.0, rest)
    by false rest = rest

each-alike : (P Q : ProcedureTree → Type 0) → ((q r : ProcedureTree) → Alike q r → P q → Q r) →
    (qs rs : List ProcedureTree) → AllZip Alike qs rs → AllByRecursion P qs → AllByRecursion Q rs
each-alike P Q next [] [] h all = tt
each-alike P Q next [] (r ∷ rs) h all = absurd h
each-alike P Q next (q ∷ qs) [] h all = absurd h
each-alike P Q next (q ∷ qs) (r ∷ rs) h all = (next q r h.0 all.0, each-alike P Q next qs rs h.1 all.1)

flat-alike : {A : Type 0} (f : ProcedureTree → List A) → ((q r : ProcedureTree) → Alike q r → f q ≡ f r) →
    (qs rs : List ProcedureTree) → AllZip Alike qs rs → flat_map f qs ≡ flat_map f rs
flat-alike f same [] [] h = refl
flat-alike f same [] (r ∷ rs) h = absurd h
flat-alike f same (q ∷ qs) [] h = absurd h
flat-alike f same (q ∷ qs) (r ∷ rs) h = ap₂ ◌++◌ (same q r h.0) (flat-alike f same qs rs h.1)

once-alike : (n : CodeNames) (local : LocalSystem) (qs rs : List ProcedureTree) → AllZip Alike qs rs →
    StatesOnce n local qs → StatesOnce n local rs
once-alike n local qs rs alike h =
    let ticks = kept-alike (λ q. not (bytes_eq q.name (start_name local.row) || bytes_eq q.name (reset_name local.row)))
    (λ q r e. ap (λ name. not (bytes_eq name (start_name local.row) || bytes_eq name (reset_name local.row)))
    (same-name q r e)) qs rs alike in
    let stored = flat-alike (λ q. stores_in q.body) same-stores (of_ticks local qs) (of_ticks local rs) ticks in
    let called = flat-alike (λ q. calls_in q.body) same-calls (of_ticks local qs) (of_ticks local rs) ticks in record {
      values =
          subst (λ (sites : List StoreSite). AllByRecursion
          (λ (r : LocalRow). count_by (λ (st : StoreSite). bytes_eq (n.own st.field) (value_name r.row)) sites
          ≤ (if is_reset_outport r.kind then 2 else 1)) (filter (λ (r : LocalRow). has_value r.kind) local.rows)) stored
          h.values;
      functions =
          subst (λ (sites : List CallSite). AllByRecursion
          (λ (u : ChildUse). AllByRecursion
          (λ (g : Head). count_by (λ (c : CallSite). bytes_eq (n.callee c.procedure).name g.name) sites ≡ 1)
          (out_heads u.header)) local.children) called h.functions;
      updates =
          subst (λ (sites : List CallSite). AllByRecursion
          (λ (u : ChildUse). count_by
          (λ (c : CallSite). bytes_eq (n.callee c.procedure).name (update_name u.header.row)) sites ≡ 1) local.children)
          called h.updates;
    }

tested-alike : (n : CodeNames) (q r : ProcedureTree) → Alike q r → tested_in n q ≡ tested_in n r
tested-alike n q r alike =
    (λ i. flat_map (λ test. named_leaves n (same-params q r alike i) (cond_leaves test)) (same-tests q r alike i))

used-alike : (n : CodeNames) (counters : List (List ℕ)) (qs rs : List ProcedureTree) → AllZip Alike qs rs →
    AreUsed n counters qs → AreUsed n counters rs
used-alike n counters qs rs alike h = record {
  called =
      subst (λ (sites : List CallSite). AllByRecursion
      (λ (q : ProcedureTree). MatchBool q.private
      (0 < count_by (λ (c : CallSite). bytes_eq (n.callee c.procedure).name q.name) sites) ⊤) rs)
      (flat-alike (λ q. calls_in q.body) same-calls qs rs alike)
      (each-alike (λ q. MatchBool q.private (0 < call_sites n qs q.name) ⊤) (λ q. MatchBool q.private (0 < call_sites n qs q.name) ⊤)
      (λ q r e one. subst (λ (x : Head). MatchBool x.private (0 < call_sites n qs x.name) ⊤) (same-head q r e) one)
      qs rs alike h.called);
  read =
      subst (λ leaves. AllByRecursion (λ name. Contains leaves (own name)) counters)
      (flat-alike (tested_in n) (tested-alike n) qs rs alike) h.read;
}

-- ---- Pure functions

pures-aside : (P : PureTree → Type 0) (fs : List PureTree) → AllByRecursion (λ f. P (pure_without_lines f)) fs →
    AllByRecursion P (map pure_without_lines fs)
pures-aside P [] h = tt
pures-aside P (f ∷ fs) h = (h.0, pures-aside P fs h.1)

pures-from : (P : PureTree → Type 0) (fs : List PureTree) → AllByRecursion P (map pure_without_lines fs) →
    AllByRecursion (λ f. P (pure_without_lines f)) fs
pures-from P [] h = tt
pures-from P (f ∷ fs) h = (h.0, pures-from P fs h.1)

-- ---- What procedures store, themselves or through private ones

module _ (private : ℕ → Bool) (field : ℕ → ℕ → List ℕ) where
  stored-alike : (qs rs : List ProcedureTree) (earlier : List (List (List ℕ))) → AllZip Alike qs rs →
      stored_names private (λ q f. field q.of f) earlier qs ≡ stored_names private (λ q f. field q.of f) earlier rs
  stored-alike [] [] earlier h = refl
  stored-alike [] (r ∷ rs) earlier h = absurd h
  stored-alike (q ∷ qs) [] earlier h = absurd h
  stored-alike (q ∷ qs) (r ∷ rs) earlier h =
      (λ i. stored_names private (λ x f. field x.of f)
      (earlier ++ (map (λ (st : StoreSite). field (same-of q r h.0 i) st.field) (same-stores q r h.0 i)
      ++ flat_map (λ (c : CallSite). stored_on private (λ x f. field x.of f) earlier c.procedure c.target)
      (same-calls q r h.0 i)) ∷ []) qs)
      ∙ stored-alike qs rs (earlier ++ stored_in private (λ x f. field x.of f) earlier r ∷ []) h.1

-- ---- Two programs that differ in lines alone

module _ (p q : ProgramTree) (same : without_lines p ≡ without_lines q) where
  structs : p.structs ≡ q.structs
  structs = ap (λ (x : ProgramTree). x.structs) same

  procedures : AllZip Alike p.procedures q.procedures
  procedures = all-alike p.procedures q.procedures (ap (λ (x : ProgramTree). x.procedures) same)

  at : (k : ℕ) → Alike (procedure_at p k) (procedure_at q k)
  at k = alike-at p.procedures q.procedures k no_procedure procedures

  places : (s : Option ℕ) → struct_place p s ≡ struct_place q s
  places s = λ i. struct_place (record { pures = []; structs = structs i; procedures = [] }) s

  -- ---- Interfaces

  same-out_places : (s : Option ℕ) → out_places p s ≡ out_places q s
  same-out_places s = sym (out_places-aside p s) ∙ ap (λ x. out_places x s) same ∙ out_places-aside q s

  same-stored : (name : List ℕ) (k : ℕ) → stores p name k ≡ stores q name k
  same-stored name k =
      ap (λ xs. has_stored xs k name)
      (stored-alike (λ i. (procedure_at p i).private) (λ of f. (field_in p of f).name) p.procedures q.procedures
      [] procedures)
      ∙ (λ i. has_stored
      (stored_names (λ j. ap (λ (h : Head). h.private) (same-head (procedure_at p j) (procedure_at q j) (at j)) i)
      (λ x f. (slice_index_or (struct_fields (structs i) x.of) f no_field).name) [] q.procedures) k name)

  same-takes : (d : Diagram) (s : Option ℕ) (k : ℕ) → takes p d s k ≡ takes q d s k
  same-takes d s k =
      ap (λ (ps : List ParamTree). ports_mask
      (filter (λ j. list_any (λ (x : ParamTree). bytes_eq x.name (port_name (system_control d.rows s) j)) ps)
      (input_ports d.rows s))) (same-params (procedure_at p k) (procedure_at q k) (at k))

  pub least-alike : (d : Diagram) (s : Option ℕ) → HasLeastInterface p d s → HasLeastInterface q d s
  least-alike d s h = record {
    needs = h.needs;
    are_needs = h.are_needs;
    face = h.face;
    is_face = record {
      functions = h.is_face.functions ∙ (λ i. map (λ k. same-takes d s k i) (same-out_places s i));
      outputs =
          h.is_face.outputs
          ∙ (λ i. map
          (λ o. map (λ (e : ℕ × ℕ). e.0)
          (filter (λ (e : ℕ × ℕ). same-stored (value_name o) e.1 i) (enumerate_from 0 (same-out_places s i))))
          (outports_of d.rows s));
      no_order = h.is_face.no_order;
    };
    is_interface = h.is_interface;
    exact = h.exact;
    least = h.least;
  }

  -- ---- The code of one system

  same-names : (s : Option ℕ) → names_in p (struct_place p s) ≡ names_in q (struct_place q s)
  same-names s = λ i. record {
    own = λ f. (slice_index_or (struct_fields (structs i) (places s i)) f no_field).name;
    inner = λ f g.
        (slice_index_or (kind_fields (record { pures = []; structs = structs i; procedures = [] })
        (slice_index_or (struct_fields (structs i) (places s i)) f no_field).kind) g no_field).name;
    struct = λ k. (slice_index_or (structs i) k no_struct).name;
    callee = λ k. same-head (procedure_at p k) (procedure_at q k) (at k) i;
  }

  own-procedures : (k l : ℕ) → k ≡ l → AllZip Alike (procedures_of p k) (procedures_of q l)
  own-procedures k l e =
      subst (λ m. AllZip Alike (procedures_of p k) (procedures_of q m)) e
      (kept-alike (λ (x : ProcedureTree). x.of == k) (λ x y alike. ap (λ of. of == k) (same-of x y alike)) p.procedures
      q.procedures procedures)

  pub system-alike : (d : Diagram) (delays : List Bool) (s : Option ℕ) → HasSystemShape p d delays s → HasSystemShape q d delays s
  system-alike d delays s h =
      let local = viewed h.view in
      let own = own-procedures (struct_place p s) (struct_place q s) (places s) in record {
        view = h.view;
        struct_there = sym (λ i. (slice_index_or (structs i) (places s i) no_struct).name) ∙ h.struct_there;
        fields =
            record {
              slots = h.fields.slots;
              are_slots = h.fields.are_slots;
              are_fields = h.fields.are_fields
                  ∙ (λ i. named_fields (same-names s i) (slice_index_or (structs i) (places s i) no_struct).fields);
            };
        heads = subst
            (λ hs. IsPermutation (public_heads (own_header local h.view.profile))
            (filter (λ (x : Head). not x.private) hs))
            (map-alike head_of same-head (procedures_of p (struct_place p s)) (procedures_of q (struct_place q s)) own)
            h.heads;
        rules = subst (λ (n : CodeNames). AllByRecursion (KeepsRules n local (counters_in h.fields.slots))
            (procedures_of q (struct_place q s))) (same-names s)
            (each-alike (KeepsRules (names_in p (struct_place p s)) local (counters_in h.fields.slots))
            (KeepsRules (names_in p (struct_place p s)) local (counters_in h.fields.slots))
            (λ x y alike one. keeps (names_in p (struct_place p s)) local
            (counters_in h.fields.slots) x y alike one) (procedures_of p (struct_place p s))
            (procedures_of q (struct_place q s)) own h.rules);
        once = subst (λ (n : CodeNames). StatesOnce n local (procedures_of q (struct_place q s))) (same-names s)
            (once-alike (names_in p (struct_place p s)) local (procedures_of p (struct_place p s))
            (procedures_of q (struct_place q s)) own h.once);
        used = subst (λ (n : CodeNames). AreUsed n (counters_in h.fields.slots) (procedures_of q (struct_place q s))) (same-names s)
            (used-alike (names_in p (struct_place p s)) (counters_in h.fields.slots) (procedures_of p (struct_place p s))
            (procedures_of q (struct_place q s)) own h.used);
      }

-- ---- The root

-- a permutation of two is one of these
pub two-orders : {A : Type 0} (x y : A) (ys : List A) → IsPermutation (x ∷ y ∷ []) ys → (ys ≡ x ∷ y ∷ []) ⊎ (ys ≡ y ∷ x ∷ [])
two-orders {A} x y ys is = IsPermutation-keeps (x ∷ y ∷ []) (λ l. (l ≡ x ∷ y ∷ []) ⊎ (l ≡ y ∷ x ∷ [])) (inl refl) step ys is
  where
    first : (i j : ℕ) → i < 2 → j < 2 → (swap (x ∷ y ∷ []) i j ≡ x ∷ y ∷ []) ⊎ (swap (x ∷ y ∷ []) i j ≡ y ∷ x ∷ [])
    first zero zero a b = inl refl
    first zero (suc zero) a b = inr refl
    first (suc zero) zero a b = inr refl
    first (suc zero) (suc zero) a b = inl refl
    first (suc (suc i)) j a b = absurd (omega arith)
    first zero (suc (suc j)) a b = absurd (omega arith)
    first (suc zero) (suc (suc j)) a b = absurd (omega arith)

    second : (i j : ℕ) → i < 2 → j < 2 → (swap (y ∷ x ∷ []) i j ≡ x ∷ y ∷ []) ⊎ (swap (y ∷ x ∷ []) i j ≡ y ∷ x ∷ [])
    second zero zero a b = inr refl
    second zero (suc zero) a b = inl refl
    second (suc zero) zero a b = inl refl
    second (suc zero) (suc zero) a b = inr refl
    second (suc (suc i)) j a b = absurd (omega arith)
    second zero (suc (suc j)) a b = absurd (omega arith)
    second (suc zero) (suc (suc j)) a b = absurd (omega arith)

    step : (l : List A) (i j : ℕ) → i < length l → j < length l → (l ≡ x ∷ y ∷ []) ⊎ (l ≡ y ∷ x ∷ []) →
        (swap l i j ≡ x ∷ y ∷ []) ⊎ (swap l i j ≡ y ∷ x ∷ [])
    step l i j a b (inl e) =
        subst (λ k. (swap k i j ≡ x ∷ y ∷ []) ⊎ (swap k i j ≡ y ∷ x ∷ [])) (sym e)
        (first i j (subst (λ k. i < length k) e a) (subst (λ k. j < length k) e b))
    step l i j a b (inr e) =
        subst (λ k. (swap k i j ≡ x ∷ y ∷ []) ⊎ (swap k i j ≡ y ∷ x ∷ [])) (sym e)
        (second i j (subst (λ k. i < length k) e a) (subst (λ k. j < length k) e b))

-- two procedures alike to these
record Pair (x y : ProcedureTree) (zs : List ProcedureTree) : Type 0 where
  one : ProcedureTree
  other : ProcedureTree
  one_alike : Alike x one
  other_alike : Alike y other
  only : IsPermutation (one ∷ other ∷ []) zs

pair-alike : (x y : ProcedureTree) (ys zs : List ProcedureTree) → IsPermutation (x ∷ y ∷ []) ys → AllZip Alike ys zs → Pair x y zs
pair-alike x y ys zs is alike = by (two-orders x y ys is)
  where
    straight : (rs : List ProcedureTree) → AllZip Alike (x ∷ y ∷ []) rs → Pair x y rs
    straight [] h = absurd h
    straight (a ∷ []) h = absurd h.1
    straight (a ∷ b ∷ []) h = record { one = a; other = b; one_alike = h.0; other_alike = h.1.0; only = IsPermutation-refl (a ∷ b ∷ []) }
    straight (a ∷ b ∷ c ∷ rs) h = absurd h.1.1

    crossed : (rs : List ProcedureTree) → AllZip Alike (y ∷ x ∷ []) rs → Pair x y rs
    crossed [] h = absurd h
    crossed (a ∷ []) h = absurd h.1
    crossed (a ∷ b ∷ []) h =
        record {
          one = b;
          other = a;
          one_alike = h.1.0;
          other_alike = h.0;
          only = record { moves = (0, 1) ∷ []; below = (omega arith, omega arith, tt); is = refl };
        }
    crossed (a ∷ b ∷ c ∷ rs) h = absurd h.1.1

    by : (ys ≡ x ∷ y ∷ []) ⊎ (ys ≡ y ∷ x ∷ []) → Pair x y zs
    by (inl e) = straight zs (subst (λ l. AllZip Alike l zs) e alike)
    by (inr e) = crossed zs (subst (λ l. AllZip Alike l zs) e alike)

-- statements that differ in lines alone
abbrev StmtAlike : StmtTree → StmtTree → Type 0
StmtAlike a b = stmt_without_lines a ≡ stmt_without_lines b

list-aside : (xs : StmtTrees) → list_of_stmts (stmts_without_lines xs) ≡ map stmt_without_lines (list_of_stmts xs)
list-aside no_stmts = refl
list-aside (more_stmts x xs) = ap (λ rest. stmt_without_lines x ∷ rest) (list-aside xs)

stmts-alike : (firsts seconds : List StmtTree) → map stmt_without_lines firsts ≡ map stmt_without_lines seconds →
    AllZip StmtAlike firsts seconds
stmts-alike [] [] e = tt
stmts-alike [] (b ∷ seconds) e = absurd (let wrong : ⊥ = cc e in wrong)
stmts-alike (a ∷ firsts) [] e = absurd (let wrong : ⊥ = cc e in wrong)
stmts-alike (a ∷ firsts) (b ∷ seconds) e = (
  ap (λ (xs : List StmtTree). slice_index_or xs 0 (stmt_without_lines a)) e,
  stmts-alike firsts seconds (ap (drop 1) e),
)

bodies-alike : (q r : ProcedureTree) → Alike q r → AllZip StmtAlike (list_of_stmts q.body) (list_of_stmts r.body)
bodies-alike q r alike =
    stmts-alike (list_of_stmts q.body) (list_of_stmts r.body) (sym (list-aside q.body)
    ∙ ap (λ (x : ProcedureTree). list_of_stmts x.body) alike ∙ list-aside r.body)

literal-aside : (a : StmtTree) → is_literal_store (stmt_without_lines a) ≡ is_literal_store a
literal-aside (assign line f value) = refl
literal-aside (assign_at line f index value) = refl
literal-aside (branch line test on_true on_false) = refl
literal-aside (call line k target es) = refl

kept-stmts : (test : Bool → Bool) (firsts seconds : List StmtTree) → AllZip StmtAlike firsts seconds →
    AllZip StmtAlike (filter (λ a. test (is_literal_store a)) firsts) (filter (λ a. test (is_literal_store a)) seconds)
kept-stmts test [] [] h = tt
kept-stmts test [] (b ∷ seconds) h = absurd h
kept-stmts test (a ∷ firsts) [] h = absurd h
kept-stmts test (a ∷ firsts) (b ∷ seconds) h =
    subst (λ t.
    AllZip StmtAlike (cond (test (is_literal_store a)) (a ∷ filter (λ x. test (is_literal_store x)) firsts)
    (filter (λ x. test (is_literal_store x)) firsts))
    (cond (test t) (b ∷ filter (λ x. test (is_literal_store x)) seconds)
    (filter (λ x. test (is_literal_store x)) seconds)))
    (sym (literal-aside a) ∙ ap is_literal_store h.0 ∙ literal-aside b)
    (by (test (is_literal_store a)) (kept-stmts test firsts seconds h.1))
  where
    by : (t : Bool) → AllZip StmtAlike (filter (λ x. test (is_literal_store x)) firsts) (filter (λ x. test (is_literal_store x)) seconds) →
        AllZip StmtAlike
        (cond t (a ∷ filter (λ x. test (is_literal_store x)) firsts)
        (filter (λ x. test (is_literal_store x)) firsts))
        (cond t (b ∷ filter (λ x. test (is_literal_store x)) seconds)
        (filter (λ x. test (is_literal_store x)) seconds))
    by true rest = (h.0, rest)
    by false rest = rest

lengths-alike : (firsts seconds : List StmtTree) → AllZip StmtAlike firsts seconds → length firsts ≡ length seconds
lengths-alike [] [] h = refl
lengths-alike [] (b ∷ seconds) h = absurd h
lengths-alike (a ∷ firsts) [] h = absurd h
lengths-alike (a ∷ firsts) (b ∷ seconds) h = ap suc (lengths-alike firsts seconds h.1)

each-stmt : (P Q : StmtTree → Type 0) → ((a b : StmtTree) → StmtAlike a b → P a → Q b) →
    (firsts seconds : List StmtTree) → AllZip StmtAlike firsts seconds → AllByRecursion P firsts →
    AllByRecursion Q seconds
each-stmt P Q next [] [] h all = tt
each-stmt P Q next [] (b ∷ seconds) h all = absurd h
each-stmt P Q next (a ∷ firsts) [] h all = absurd h
each-stmt P Q next (a ∷ firsts) (b ∷ seconds) h all = (next a b h.0 all.0, each-stmt P Q next firsts seconds h.1 all.1)

zip-stmt : (P Q : RootStep → StmtTree → Type 0) →
    ((step : RootStep) (a b : StmtTree) → StmtAlike a b → P step a → Q step b) →
    (steps : List RootStep) (firsts seconds : List StmtTree) → AllZip StmtAlike firsts seconds → AllZip P steps firsts →
    AllZip Q steps seconds
zip-stmt P Q next [] [] [] h all = tt
zip-stmt P Q next [] [] (b ∷ seconds) h all = absurd h
zip-stmt P Q next [] (a ∷ firsts) seconds h all = absurd all
zip-stmt P Q next (s ∷ steps) [] seconds h all = absurd all
zip-stmt P Q next (s ∷ steps) (a ∷ firsts) [] h all = absurd h
zip-stmt P Q next (s ∷ steps) (a ∷ firsts) (b ∷ seconds) h all = (next s a b h.0 all.0, zip-stmt P Q next steps firsts seconds h.1 all.1)

-- what a statement of the root does it does without lines
module _ (p : ProgramTree) (hyper : ℕ) (x : ProcedureTree) where
  call-to : (callee : Head) (a : StmtTree) → DoesCall p hyper x callee a → DoesCall p hyper x callee (stmt_without_lines a)
  call-to callee (call line k (Child f) values) h = h
  call-to callee (call line k Own values) h = h
  call-to callee (assign line f value) h = h
  call-to callee (assign_at line f index value) h = h
  call-to callee (branch line test on_true on_false) h = h

  call-from : (callee : Head) (a : StmtTree) → DoesCall p hyper x callee (stmt_without_lines a) → DoesCall p hyper x callee a
  call-from callee (call line k (Child f) values) h = h
  call-from callee (call line k Own values) h = h
  call-from callee (assign line f value) h = h
  call-from callee (assign_at line f index value) h = h
  call-from callee (branch line test on_true on_false) h = h

  store-to : (name : List ℕ) (IsValue : ExprTree → Type 0) (a : StmtTree) → DoesStore p hyper x name IsValue a →
      DoesStore p hyper x name IsValue (stmt_without_lines a)
  store-to name IsValue (call line k target values) h = h
  store-to name IsValue (assign line f value) h = h
  store-to name IsValue (assign_at line f index value) h = h
  store-to name IsValue (branch line test on_true on_false) h = h

  store-from : (name : List ℕ) (IsValue : ExprTree → Type 0) (a : StmtTree) →
      DoesStore p hyper x name IsValue (stmt_without_lines a) → DoesStore p hyper x name IsValue a
  store-from name IsValue (call line k target values) h = h
  store-from name IsValue (assign line f value) h = h
  store-from name IsValue (assign_at line f index value) h = h
  store-from name IsValue (branch line test on_true on_false) h = h

  does-alike : (step : RootStep) (a b : StmtTree) → StmtAlike a b → Does p hyper x step a → Does p hyper x step b
  does-alike (calls callee) a b e h = call-from callee b (subst (DoesCall p hyper x callee) e (call-to callee a h))
  does-alike (copies output row) a b e h =
      let value = IsReadOf (names_in p x.of) x.params (child (system_name None) (value_name row)) in
      store-from (output_name output) value b
      (subst (DoesStore p hyper x (output_name output) value) e (store-to (output_name output) value a h))
  does-alike moves_on a b e h =
      store-from now_name (MovesOn p hyper x) b
      (subst (DoesStore p hyper x now_name (MovesOn p hyper x)) e (store-to now_name (MovesOn p hyper x) a h))

  begins-to : (a : StmtTree) → BeginsTick p x a → BeginsTick p x (stmt_without_lines a)
  begins-to (call line k target values) h = h
  begins-to (assign line f value) h = h
  begins-to (assign_at line f index value) h = h
  begins-to (branch line test on_true on_false) h = h

  begins-from : (a : StmtTree) → BeginsTick p x (stmt_without_lines a) → BeginsTick p x a
  begins-from (call line k target values) h = h
  begins-from (assign line f value) h = h
  begins-from (assign_at line f index value) h = h
  begins-from (branch line test on_true on_false) h = h

  begins-alike : (a b : StmtTree) → StmtAlike a b → BeginsTick p x a → BeginsTick p x b
  begins-alike a b e h = begins-from b (subst (BeginsTick p x) e (begins-to a h))

module _ (p q : ProgramTree) (same : without_lines p ≡ without_lines q) (hyper : ℕ) where
  names-at : (k l : ℕ) → k ≡ l → names_in p k ≡ names_in q l
  names-at k l e = λ i. record {
    own = λ f. (slice_index_or (struct_fields (structs p q same i) (e i)) f no_field).name;
    inner = λ f g.
        (slice_index_or (kind_fields (record { pures = []; structs = structs p q same i; procedures = [] })
        (slice_index_or (struct_fields (structs p q same i) (e i)) f no_field).kind) g no_field).name;
    struct = λ j. (slice_index_or (structs p q same i) j no_struct).name;
    callee = λ j. same-head (procedure_at p j) (procedure_at q j) (at p q same j) i;
  }

  module _ (x y : ProcedureTree) (alike : Alike x y) where
    names : names_in p x.of ≡ names_in q y.of
    names = names-at x.of y.of (same-of x y alike)

    params : x.params ≡ y.params
    params = same-params x y alike

    moved-call : (callee : Head) (a : StmtTree) → DoesCall p hyper x callee a → DoesCall q hyper y callee a
    moved-call callee (call line k (Child f) values) h = (
      sym (same-head (procedure_at p k) (procedure_at q k) (at p q same k)) ∙ h.0,
      subst (λ (n : CodeNames). n.own f ≡ system_name None) names h.1,
      subst (λ (ps : List ParamTree). AllZip (λ (wanted : ParamTree) e. (what : NamedLeaf) × IsPassed wanted.name what
          × IsReadOf (names_in q y.of) ps what e) callee.params (list_of_exprs values)) params
          (subst (λ (n : CodeNames). AllZip (λ (wanted : ParamTree) e. (what : NamedLeaf) × IsPassed wanted.name what
          × IsReadOf n x.params what e) callee.params (list_of_exprs values)) names h.2),
    )
    moved-call callee _ h = h

    moved-store : (name : List ℕ) (P Q : ExprTree → Type 0) → ((e : ExprTree) → P e → Q e) → (a : StmtTree) →
        DoesStore p hyper x name P a → DoesStore q hyper y name Q a
    moved-store name P Q next (assign line f value) h = (subst (λ (n : CodeNames). n.own f ≡ name) names h.0, next value h.1)
    moved-store name P Q next (call line k target values) h = h
    moved-store name P Q next (assign_at line f index value) h = h
    moved-store name P Q next (branch line test on_true on_false) h = h

    moved-read : (what : NamedLeaf) (e : ExprTree) → IsReadOf (names_in p x.of) x.params what e → IsReadOf (names_in q y.of) y.params what e
    moved-read what e h =
        subst (λ ps. IsReadOf (names_in q y.of) ps what e) params
        (subst (λ (n : CodeNames). IsReadOf n x.params what e) names h)

    moved-on : (e : ExprTree) → MovesOn p hyper x e → MovesOn q hyper y e
    moved-on e h = record {
      reads = subst (λ ps. AllByRecursion (λ leaf. leaf ≡ own now_name) (named_leaves (names_in q y.of) ps (expr_leaves e))) params
          (subst (λ (n : CodeNames). AllByRecursion (λ leaf. leaf ≡ own now_name) (named_leaves n x.params (expr_leaves e))) names h.reads);
      next = h.next;
    }

    moved-step : (step : RootStep) (a : StmtTree) → Does p hyper x step a → Does q hyper y step a
    moved-step (calls callee) a h = moved-call callee a h
    moved-step (copies output row) a h = moved-store (output_name output) _ _ (moved-read (child (system_name None) (value_name row))) a h
    moved-step moves_on a h = moved-store now_name (MovesOn p hyper x) (MovesOn q hyper y) moved-on a h

    moved-tick : (a : StmtTree) → BeginsTick p x a → BeginsTick q y a
    moved-tick (assign line f value) h = (subst (λ (n : CodeNames). n.own f ≡ now_name) names h.0, h.1)
    moved-tick (call line k target values) h = h
    moved-tick (assign_at line f index value) h = h
    moved-tick (branch line test on_true on_false) h = h

  root-place : root_struct p ≡ root_struct q
  root-place = λ i. root_struct (record { pures = []; structs = structs p q same i; procedures = [] })

  pub root-alike : (d : Diagram) → HasRootCode p d hyper → HasRootCode q d hyper
  root-alike d h =
      let two = pair-alike h.start h.step (procedures_of p (root_struct p)) (procedures_of q (root_struct q)) h.only
      (own-procedures p q same (root_struct p) (root_struct q) root-place) in
      let starts = bodies-alike h.start two.one two.one_alike in
      let literal = kept-stmts (λ t. t) (list_of_stmts h.start.body) (list_of_stmts two.one.body) starts in
      let others = kept-stmts not (list_of_stmts h.start.body) (list_of_stmts two.one.body) starts in record {
        profile = h.profile;
        is_profile = h.is_profile;
        name = sym (λ i. (slice_index_or (structs p q same i) (root-place i) no_struct).name) ∙ h.name;
        fields =
            subst (IsPermutation (root_fields_of d))
            (λ i. named_fields (names-at (root_struct p) (root_struct q) root-place i)
            (slice_index_or (structs p q same i) (root-place i) no_struct).fields) h.fields;
        start = two.one;
        step = two.other;
        only = two.only;
        start_head = sym (same-head h.start two.one two.one_alike) ∙ h.start_head;
        step_head = sym (same-head h.step two.other two.other_alike) ∙ h.step_head;
        begins = subst (λ n. 0 < n) (lengths-alike _ _ literal) h.begins;
        tick_alone =
            each-stmt (BeginsTick p h.start) (BeginsTick q two.one)
            (λ a b e one. begins-alike q hyper two.one a b e (moved-tick h.start two.one two.one_alike a one)) _ _
            literal h.tick_alone;
        starts =
            zip-stmt (Does p hyper h.start) (Does q hyper two.one)
            (λ step a b e one. does-alike q hyper two.one step a b e
            (moved-step h.start two.one two.one_alike step a one))
            (start_steps d (header_of d None h.profile)) _ _ others h.starts;
        does = zip-stmt (Does p hyper h.step) (Does q hyper two.other)
            (λ step a b e one. does-alike q hyper two.other step a b e
            (moved-step h.step two.other two.other_alike step a one)) (tick_steps d (header_of d None h.profile)) _ _
            (bodies-alike h.step two.other two.other_alike) h.does;
      }

  pub shape-alike : (d : Diagram) (delays : List Bool) → HasShape p d delays hyper → HasShape q d delays hyper
  shape-alike d delays h = record {
    pures =
        pures-from (Contains function_trees) q.pures
        (subst (AllByRecursion (Contains function_trees)) (ap (λ (x : ProgramTree). x.pures) same)
        (pures-aside (Contains function_trees) p.pures h.pures));
    structs =
        subst (λ (ss : List StructTree). IsPermutation (root_name ∷ map system_name (systems d.rows))
        (map (λ st. st.name) ss)) (structs p q same) h.structs;
    each = each-then (HasSystemShape p d delays) (HasSystemShape q d delays) (systems d.rows)
        (λ s one. system-alike p q same d delays s one) h.each;
    root = root-alike d h.root;
  }

pub shape_means_no_lines : ShapeMeansNoLines
shape_means_no_lines =
    record {
      least = λ d s p q same h. least-alike p q same d s h;
      shape = λ d delays hyper p q same h. shape-alike p q same hyper d delays h;
    }

pub text_of_code_is_right : LinesMeanNothing → TextOfCodeIsRight
text_of_code_is_right lines bytes p r text h =
    let d = diagram_of_table r in
    let q = text.reading in
    let same = sym text.same in
    let rows = rows_mean_no_lines lines in
    let renewals = renewals_mean_no_lines lines in record {
      program = q;
      reads = text.read;
      only = text.one;
      alike = text.alike;
      code = record {
        runs = record {
          outputs = λ xs trace. rows.outputs d xs p q same (h.runs.outputs xs trace);
          bounded = λ xs trace. rows.bounded d xs p q same (h.runs.bounded xs trace);
          ticks = rows.ticks d p q same h.runs.ticks;
        };
        least = each-then (HasLeastInterface p d) (HasLeastInterface q d) (systems d.rows) (λ s one. least-alike p q same d s one) h.least;
        shape = shape-alike p q same r.times.hyper d r.times.delays h.shape;
        any_order = each-then (AnswersAnyOrder p d r.times.hyper) (AnswersAnyOrder q d r.times.hyper) (systems d.rows)
            (λ s one. rows.any_order d r.times.hyper s p q same one) h.any_order;
        renewed = each-then (RenewsAll p d r.times.hyper) (RenewsAll q d r.times.hyper) (systems d.rows)
            (λ s one. renewals.renewed d r.times.hyper s p q same one) h.renewed;
        restarted = renewals.restarted d r.times.hyper p q same h.restarted;
      };
    }
