-- What a system's procedures read of a child has a name: so it is one of the child's outputs.
use Rattle.std.specs.Prelude.{◌≡◌, ℕ, Bool, true, false, if◌then◌else◌, List, [], ◌∷◌, ◌++◌, map, flat_map, find, Contains, Option, Some, None, bytes_eq}
use Rattle.std.specs.Option.{option_map_or}
use Rattle.std.specs.List.{AllByRecursion, AllZip}
use Rattle.std.proofs.Common.{refl, sym, ap, subst, inl, inr}
use Rattle.diagram_blocks.specs.Kinds.{is_inport, port_of}
use Rattle.modules_profile.specs.declared.ChildUse.{ChildUse}
use Rattle.modules_profile.specs.declared.LocalRow.{LocalRow}
use Rattle.modules_profile.specs.LocalSystem.{LocalSystem}
use Rattle.modules_profile.specs.Systems.{system_name}
use Rattle.modules_profile.specs.Locals.{entering}
use Rattle.modules_profile.proofs.lemmas.Members.{in-cases, of-zip, map-at}
use Rattle.c_syntax.specs.declared.Leaf.{Leaf}
use Rattle.c_syntax.specs.declared.Target.{Target}
use Rattle.c_syntax.specs.declared.Target.TheVariants.{Own as OwnTarget, Child as ChildTarget}
use Rattle.c_syntax.specs.Tree.{ExprTree, ExprTrees, CondTree, no_exprs, more_exprs, StmtTree, assign, assign_at, branch, call, StmtTrees, no_stmts, more_stmts, ProcedureTree, ParamTree, list_of_exprs}
use Rattle.emit_shape.specs.NamedLeaf.{NamedLeaf, param, own, child}
use Rattle.emit_shape.specs.Names.{value_name, memory_name, place_name, taken_name, trigger_name, trigger_param, is_counter_name, input_name}
use Rattle.emit_shape.specs.Heads.{Head, input_params}
use Rattle.emit_shape.specs.CodeNames.{CodeNames, named_leaf, named_leaves, IsReadOf}
use Rattle.emit_shape.specs.Reads.{StoreSite, IndexSite, CallSite, expr_leaves, exprs_leaves, cond_leaves, stmt_leaves, stmts_leaves, stmt_stores, stores_in, stmt_tests, tests_in, stmt_calls, calls_in, stmt_indices, indices_in, cond_indices}
use Rattle.emit_shape.specs.Rules.{has_output, wire_place, input_reads, row_reads, store_reads, index_reads, test_reads, passed, IsRightCall, KeepsRules}
use Rattle.right_linking.proofs.lemmas.AssembledPlaces.{member}
use Rattle.right_program_rules.proofs.Lists.{all-append, all-front, all-back}

abbrev pub has_bytes : List ℕ → Bool
has_bytes [] = false
has_bytes (b ∷ bs) = true

abbrev pub is_named : NamedLeaf → Bool
is_named (param name) = true
is_named (own field) = true
is_named (child field inner) = has_bytes inner

abbrev pub IsNamed : NamedLeaf → Type 0
IsNamed leaf = is_named leaf ≡ true

-- ---- What may be read

all-flat : {A B : Type 0} (P : B → Type 0) (f : A → List B) (xs : List A) → ((x : A) → AllByRecursion P (f x)) →
    AllByRecursion P (flat_map f xs)
all-flat P f [] holds = tt
all-flat P f (x ∷ xs) holds = all-append P (f x) (flat_map f xs) (holds x) (all-flat P f xs holds)

all-if : {A : Type 0} (P : A → Type 0) (t : Bool) (xs : List A) → AllByRecursion P xs → AllByRecursion P (if t then xs else [])
all-if P true xs all = all
all-if P false xs all = tt

all-own : (names : List (List ℕ)) → AllByRecursion IsNamed (map own names)
all-own [] = tt
all-own (name ∷ names) = (refl, all-own names)

wire-named : (local : LocalSystem) (c : ℕ) → IsNamed (wire_place local c)
wire-named local c = by (find (has_output c) local.children)
  where
    by : (o : Option ChildUse) → IsNamed
        (option_map_or (λ (u : ChildUse). child (system_name u.header.row) (value_name c)) o (own (value_name c)))
    by None = refl
    by (Some u) = refl

wires-named : (local : LocalSystem) (cs : List ℕ) → AllByRecursion IsNamed (map (wire_place local) cs)
wires-named local [] = tt
wires-named local (c ∷ cs) = (wire-named local c, wires-named local cs)

inputs-named : (local : LocalSystem) (r : LocalRow) → AllByRecursion IsNamed (input_reads local r)
inputs-named local r = by (is_inport r.kind)
  where
    by : (t : Bool) → AllByRecursion IsNamed (if t then param (input_name (port_of r.kind)) ∷ [] else map (wire_place local) r.inputs)
    by true = (refl, tt)
    by false = wires-named local r.inputs

row-named : (local : LocalSystem) (name : List ℕ) (r : LocalRow) → AllByRecursion IsNamed (row_reads local name r)
row-named local name r =
    let inputs = inputs-named local r in
    all-append IsNamed _ _
    (all-append IsNamed _ _
    (all-append IsNamed _ _
    (all-if IsNamed (bytes_eq name (value_name r.row))
    (own (memory_name r.row) ∷ own (place_name r.row) ∷ own (taken_name r.row) ∷ input_reads local r) (refl, (refl, (refl, inputs))))
    (all-if IsNamed (bytes_eq name (memory_name r.row)) (input_reads local r) inputs))
    (all-if IsNamed (bytes_eq name (place_name r.row)) (own name ∷ []) (refl, tt)))
    (all-if IsNamed (bytes_eq name (taken_name r.row)) (own name ∷ []) (refl, tt))

store-named : (local : LocalSystem) (counters : List (List ℕ)) (name : List ℕ) → AllByRecursion IsNamed (store_reads local counters name)
store-named local counters name =
    all-append IsNamed _ _
    (all-append IsNamed _ _
    (all-flat IsNamed (row_reads local name) local.rows (row-named local name))
    (all-if IsNamed (bytes_eq name trigger_name) (param (trigger_param local.control) ∷ own trigger_name ∷ []) (refl, (refl, tt))))
    (all-if IsNamed (is_counter_name name) (map own counters) (all-own counters))

index-named : (local : LocalSystem) (name : List ℕ) → AllByRecursion IsNamed (index_reads local name)
index-named local name =
    all-flat IsNamed (λ (r : LocalRow). if bytes_eq name (memory_name r.row) then own (place_name r.row) ∷ [] else []) local.rows
    (λ r. all-if IsNamed (bytes_eq name (memory_name r.row)) (own (place_name r.row) ∷ []) (refl, tt))

test-named : (counters : List (List ℕ)) → AllByRecursion IsNamed (test_reads counters)
test-named counters = (refl, (refl, (refl, (refl, all-own counters))))

passed-named : (local : LocalSystem) (u : ChildUse) (name : List ℕ) (what : NamedLeaf) → Contains (passed local u) (name, what) →
    IsNamed what
passed-named local u name what has = elim (in-cases _ (name, what) _ has) [
  | inl same ↦ ap (λ (e : List ℕ × NamedLeaf). is_named e.1) (sym same)
  | inr more ↦
      let at = of-zip (map (λ (q : ParamTree). q.name) (input_params u.header)) (map (wire_place local) (entering u)) (name, what) more in
      let wire = map-at (wire_place local) (entering u) at.0 what at.2 in
      subst IsNamed wire.2 (wire-named local wire.0)
]

-- ---- What is read

module _ (n : CodeNames) (params : List ParamTree) where
  abbrev pub ReadsNamed : Leaf → Type 0
  ReadsNamed l = IsNamed (named_leaf n params l)

  abbrev AreRead : ExprTree → Type 0
  AreRead e = AllByRecursion ReadsNamed (expr_leaves e)

  leaves-named : (allowed : List NamedLeaf) (leaves : List Leaf) → AllByRecursion IsNamed allowed →
      AllByRecursion (Contains allowed) (named_leaves n params leaves) → AllByRecursion ReadsNamed leaves
  leaves-named allowed [] named all = tt
  leaves-named allowed (l ∷ leaves) named all =
      (member IsNamed allowed (named_leaf n params l) named all.0, leaves-named allowed leaves named all.1)

  read-named : (wanted : NamedLeaf) (e : ExprTree) → IsNamed wanted → IsReadOf n params wanted e → AreRead e
  read-named wanted e named reads =
      subst AreRead (sym reads.1) (subst IsNamed (sym reads.2) named, tt)

  zip-each : {A : Type 0} (P : A → ExprTree → Type 0) (xs : List A) (es : List ExprTree) → ((x : A) (e : ExprTree) → P x e → AreRead e) →
      AllZip P xs es → AllByRecursion AreRead es
  zip-each P [] [] gives all = tt
  zip-each P [] (e ∷ es) gives all = absurd all
  zip-each P (x ∷ xs) [] gives all = absurd all
  zip-each P (x ∷ xs) (e ∷ es) gives all = (gives x e all.0, zip-each P xs es gives all.1)

  exprs-read : (es : ExprTrees) → AllByRecursion AreRead (list_of_exprs es) → AllByRecursion ReadsNamed (exprs_leaves es)
  exprs-read no_exprs all = tt
  exprs-read (more_exprs e es) all = all-append ReadsNamed (expr_leaves e) (exprs_leaves es) all.0 (exprs-read es all.1)

  abbrev StoreReads : StoreSite → Type 0
  StoreReads st = AreRead st.value

  abbrev IndexReads : IndexSite → Type 0
  IndexReads i = AreRead i.index

  abbrev TestReads : CondTree → Type 0
  TestReads test = AllByRecursion ReadsNamed (cond_leaves test)

  abbrev CallReads : CallSite → Type 0
  CallReads c = AllByRecursion AreRead c.values

  mutual
    stmt-reads : (s : StmtTree) → AllByRecursion StoreReads (stmt_stores s) → AllByRecursion IndexReads (stmt_indices s) →
        AllByRecursion TestReads (stmt_tests s) → AllByRecursion CallReads (stmt_calls s) → AllByRecursion ReadsNamed (stmt_leaves s)
    stmt-reads (assign line f e) stores indices tests calls = stores.0
    stmt-reads (assign_at line f index e) stores indices tests calls =
        all-append ReadsNamed (expr_leaves index) (expr_leaves e) indices.0 stores.0
    stmt-reads (branch line test on_true on_false) stores indices tests calls =
        let inner = all-back IndexReads (cond_indices test) (indices_in on_true)
        (all-front IndexReads (cond_indices test ++ indices_in on_true) (indices_in on_false) indices) in
        all-append ReadsNamed (cond_leaves test ++ stmts_leaves on_true) (stmts_leaves on_false)
        (all-append ReadsNamed (cond_leaves test) (stmts_leaves on_true) tests.0
        (stmts-read on_true (all-front StoreReads (stores_in on_true) (stores_in on_false) stores) inner
        (all-front TestReads (tests_in on_true) (tests_in on_false) tests.1)
        (all-front CallReads (calls_in on_true) (calls_in on_false) calls)))
        (stmts-read on_false (all-back StoreReads (stores_in on_true) (stores_in on_false) stores)
        (all-back IndexReads (cond_indices test ++ indices_in on_true) (indices_in on_false) indices)
        (all-back TestReads (tests_in on_true) (tests_in on_false) tests.1)
        (all-back CallReads (calls_in on_true) (calls_in on_false) calls))
    stmt-reads (call line k target es) stores indices tests calls = exprs-read es calls.0

    stmts-read : (ss : StmtTrees) → AllByRecursion StoreReads (stores_in ss) → AllByRecursion IndexReads (indices_in ss) →
        AllByRecursion TestReads (tests_in ss) → AllByRecursion CallReads (calls_in ss) → AllByRecursion ReadsNamed (stmts_leaves ss)
    stmts-read no_stmts stores indices tests calls = tt
    stmts-read (more_stmts s ss) stores indices tests calls =
        all-append ReadsNamed (stmt_leaves s) (stmts_leaves ss)
        (stmt-reads s (all-front StoreReads (stmt_stores s) (stores_in ss) stores)
        (all-front IndexReads (stmt_indices s) (indices_in ss) indices)
        (all-front TestReads (stmt_tests s) (tests_in ss) tests) (all-front CallReads (stmt_calls s) (calls_in ss) calls))
        (stmts-read ss (all-back StoreReads (stmt_stores s) (stores_in ss) stores)
        (all-back IndexReads (stmt_indices s) (indices_in ss) indices)
        (all-back TestReads (stmt_tests s) (tests_in ss) tests) (all-back CallReads (stmt_calls s) (calls_in ss) calls))

each : {A : Type 0} (P Q : A → Type 0) → ((x : A) → P x → Q x) → (xs : List A) → AllByRecursion P xs → AllByRecursion Q xs
each P Q gives [] all = tt
each P Q gives (x ∷ xs) all = (gives x all.0, each P Q gives xs all.1)

call-named : (n : CodeNames) (local : LocalSystem) (q : ProcedureTree) (target : Target) (callee : Head) (values : List ExprTree) →
    IsRightCall n local q target callee values → AllByRecursion (AreRead n q.params) values
call-named n local q OwnTarget callee values right =
    zip-each n q.params (λ (wanted : ParamTree) e. IsReadOf n q.params (param wanted.name) e) callee.params values
    (λ wanted e reads. read-named n q.params (param wanted.name) e refl reads) right
call-named n local q (ChildTarget f) callee values right =
    zip-each n q.params (λ (wanted : ParamTree) e. (what : NamedLeaf) × Contains (passed local right.child)
    (wanted.name, what) × IsReadOf n q.params what e) callee.params values
    (λ wanted e reads. read-named n q.params reads.0 e (passed-named local right.child wanted.name reads.0 reads.1) reads.2) right.passes

-- each leaf of a procedure's body is named
pub reads-named : (n : CodeNames) (local : LocalSystem) (counters : List (List ℕ)) (q : ProcedureTree) → KeepsRules n local counters q →
    AllByRecursion (ReadsNamed n q.params) (stmts_leaves q.body)
reads-named n local counters q rules =
    stmts-read n q.params q.body
    (each (λ (st : StoreSite). AllByRecursion (Contains (store_reads local counters (n.own st.field)))
    (named_leaves n q.params (expr_leaves st.value))) (StoreReads n q.params)
    (λ st reads. leaves-named n q.params (store_reads local counters (n.own st.field)) (expr_leaves st.value)
    (store-named local counters (n.own st.field)) reads) (stores_in q.body) rules.stores)
    (each (λ (i : IndexSite). AllByRecursion (Contains (index_reads local (n.own i.field)))
    (named_leaves n q.params (expr_leaves i.index))) (IndexReads n q.params)
    (λ i reads. leaves-named n q.params (index_reads local (n.own i.field)) (expr_leaves i.index)
    (index-named local (n.own i.field)) reads) (indices_in q.body) rules.indices)
    (each (λ (test : CondTree). AllByRecursion (Contains (test_reads counters)) (named_leaves n q.params (cond_leaves test)))
    (TestReads n q.params)
    (λ test reads. leaves-named n q.params (test_reads counters) (cond_leaves test) (test-named counters) reads)
    (tests_in q.body) rules.tests)
    (each (λ (c : CallSite). IsRightCall n local q c.target (n.callee c.procedure) c.values) (CallReads n q.params)
    (λ c right. call-named n local q c.target (n.callee c.procedure) c.values right) (calls_in q.body) rules.calls)
