-- In procedures that contain helpers' bodies each value is stored and each procedure called as often as before, and no less is used.
use Rattle.std.specs.Prelude.{◌≡◌, ℕ, zero, suc, ◌+◌, ◌<◌, ◌≤◌, ◌==◌, not, ◌||◌, MatchBool, Bool, true, false, if◌then◌else◌, cond, nat_lt, List, [], ◌∷◌, ◌++◌, filter, flat_map, sum_by, count_by, length, Contains, Some, slice_get, bytes_eq, ⊤}
use Rattle.std.specs.List.{AllByRecursion, list_any, range_with_len}
use Rattle.std.proofs.Common.{refl, sym, ap, subst, ◌∙◌, arith, inl, inr}
use Rattle.std.proofs.lemmas.Bool.{or_left, or_right, eqb-true}
use Rattle.std.proofs.lemmas.Bool.Decides.{nat_tests}
use Rattle.std.proofs.lemmas.List.Sums.{sum_by-cons}
use Rattle.std.proofs.lemmas.Slice.Eq.{bytes_eq-Decides}
use Rattle.diagram_blocks.specs.Meaning.{has_value}
use Rattle.diagram_blocks.specs.Kinds.{is_reset_outport}
use Rattle.modules_profile.specs.declared.ChildUse.{ChildUse}
use Rattle.modules_profile.specs.declared.LocalRow.{LocalRow}
use Rattle.modules_profile.specs.LocalSystem.{LocalSystem}
use Rattle.modules_profile.specs.SystemHeader.{SystemHeader}
use Rattle.modules_profile.specs.Headers.{header_functions}
use Rattle.modules_profile.proofs.lemmas.Members.{in-none, in-cases, in-first, in-rest, in-at, in-filter, at-in, at-map, of-filter, of-map}
use Rattle.c_syntax.specs.declared.code.Leaf.{Leaf}
use Rattle.c_syntax.specs.declared.code.Leaf.TheVariants.{Param, Own, Child}
use Rattle.c_syntax.specs.Tree.{CondTree, StmtTree, StmtTrees, ParamTree, ProcedureTree, ProgramTree}
use Rattle.c_syntax.specs.Outputs.{has_name}
use Rattle.c_syntax.specs.Lawful.{AreProcedures, AreDistinct, pure_names, procedure_names}
use Rattle.c_syntax.proofs.lemmas.NamePlaces.{or-left, or-right}
use Rattle.c_semantics.specs.Machine.{is_interface}
use Rattle.emit_shape.specs.NamedLeaf.{NamedLeaf, param, own}
use Rattle.emit_shape.specs.NamedLeaf as named
use Rattle.emit_shape.specs.Names.{value_name, start_name, reset_name, update_name, group_name}
use Rattle.emit_shape.specs.Heads.{Head, out_head, out_heads}
use Rattle.emit_shape.specs.CodeNames.{CodeNames, named_leaf, named_leaves}
use Rattle.emit_shape.specs.Reads.{StoreSite, CallSite, stores_in, tests_in, calls_in, cond_leaves}
use Rattle.emit_shape.specs.Rules.{KeepsRules}
use Rattle.emit_shape.specs.Once.{of_ticks, store_sites, call_sites, StatesOnce}
use Rattle.emit_shape.specs.Used.{tested_in, AreUsed}
use Rattle.emit_shape.specs.Programs.{names_in, procedures_of}
use Rattle.emit_pruned.proofs.lemmas.Numbers.{each-then}
use Rattle.emit_inlined.proofs.lemmas.Staying.{was}
use Rattle.emit_inlined.specs.Inlined.{stays, place, moved_leaf, inlined_procedure, inlined}
use Rattle.right_pruned.proofs.lemmas.Lists.{member}
use Rattle.right_fused.proofs.lemmas.Lists.{each-in, any-count}
use Rattle.right_inlined.proofs.HelperCalls.{HasHelper}
use Rattle.right_inlined.proofs.HelperNames.{group-out, group-update, group-ticks, logged-ticks}
use Rattle.right_inlined.proofs.InlinedRules.{callee, head-at, rule-at}
use Rattle.right_inlined.proofs.InlinedWeights.{all-weigh}
use Rattle.right_inlined.proofs.MovedRules.{renamed}
use Rattle.right_inlined.proofs.Totals.{nothing, sum-map, sum-filter, count-flat}
use Rattle.right_inlined.proofs.Weights.{Weights, store_weight, call_weight, leaf_weight, test_weight, weigh, weigh-is}

-- ---- Sums

same-by : {A : Type 0} (f g : A → ℕ) (xs : List A) → ((x : A) → f x ≡ g x) → sum_by f xs ≡ sum_by g xs
same-by f g xs same = λ i. sum_by (λ x. same x i) xs

-- both of two tests
abbrev both_of : {A : Type 0} → (A → Bool) → (A → Bool) → A → Bool
both_of outer inner x = if outer x then inner x else false

twice-filtered : {A : Type 0} (outer inner : A → Bool) (f : A → ℕ) (xs : List A) →
    sum_by f (filter inner (filter outer xs)) ≡ sum_by (λ x. if both_of outer inner x then f x else 0) xs
twice-filtered outer inner f xs =
    sum-filter inner f (filter outer xs) ∙ sum-filter outer (λ x. if inner x then f x else 0) xs
    ∙ same-by (λ x. if outer x then (if inner x then f x else 0) else 0) (λ x. if both_of outer inner x then f x else 0) xs
    (λ x. by (outer x) (inner x) (f x))
  where
    by : (a b : Bool) (m : ℕ) → (if a then (if b then m else 0) else 0) ≡ (if (if a then b else false) then m else 0)
    by true b m = refl
    by false b m = refl

-- as many as pass, in lists of the items that pass two tests
counted-twice : {A B : Type 0} (sites : A → List B) (passes : B → Bool) (outer inner : A → Bool) (xs : List A) →
    count_by passes (flat_map sites (filter inner (filter outer xs)))
    ≡ sum_by (λ x. if both_of outer inner x then count_by passes (sites x) else 0) xs
counted-twice sites passes outer inner xs =
    count-flat sites passes (filter inner (filter outer xs)) ∙ twice-filtered outer inner (λ x. count_by passes (sites x)) xs

counted-once : {A B : Type 0} (sites : A → List B) (passes : B → Bool) (outer : A → Bool) (xs : List A) →
    count_by passes (flat_map sites (filter outer xs)) ≡ sum_by (λ x. if outer x then count_by passes (sites x) else 0) xs
counted-once sites passes outer xs =
    count-flat sites passes (filter outer xs) ∙ sum-filter outer (λ x. count_by passes (sites x)) xs

-- ---- Weights of sites

abbrev of_stores : (ℕ → Bool) → Weights
of_stores passes = record { store = λ f. cond (passes f) 1 0; call = λ k target. 0; leaf = λ l. 0 }

abbrev of_calls : (ℕ → Bool) → Weights
of_calls passes = record { store = λ f. 0; call = λ k target. cond (passes k) 1 0; leaf = λ l. 0 }

abbrev of_leaves : (Leaf → Bool) → Weights
of_leaves passes = record { store = λ f. 0; call = λ k target. 0; leaf = λ l. cond (passes l) 1 0 }

stores-weigh : (passes : ℕ → Bool) (ss : StmtTrees) →
    count_by (λ (st : StoreSite). passes st.field) (stores_in ss) ≡ weigh (of_stores passes) ss
stores-weigh passes ss =
    let w = of_stores passes in
    let calls : call_weight w ss ≡ 0 = nothing (λ (c : CallSite). w.call c.procedure c.target) (calls_in ss) (λ c. refl) in
    let tests : test_weight w ss ≡ 0 = nothing (leaf_weight w) (tests_in ss) (λ t. nothing w.leaf (cond_leaves t) (λ l. refl)) in
    let whole = weigh-is w ss in omega (arith, calls, tests, whole)

calls-weigh : (passes : ℕ → Bool) (ss : StmtTrees) →
    count_by (λ (c : CallSite). passes c.procedure) (calls_in ss) ≡ weigh (of_calls passes) ss
calls-weigh passes ss =
    let w = of_calls passes in
    let stores : store_weight w ss ≡ 0 = nothing (λ (st : StoreSite). w.store st.field) (stores_in ss) (λ st. refl) in
    let tests : test_weight w ss ≡ 0 = nothing (leaf_weight w) (tests_in ss) (λ t. nothing w.leaf (cond_leaves t) (λ l. refl)) in
    let whole = weigh-is w ss in omega (arith, stores, tests, whole)

leaves-weigh : (passes : Leaf → Bool) (ss : StmtTrees) →
    sum_by (λ test. count_by passes (cond_leaves test)) (tests_in ss) ≡ weigh (of_leaves passes) ss
leaves-weigh passes ss =
    let w = of_leaves passes in
    let stores : store_weight w ss ≡ 0 = nothing (λ (st : StoreSite). w.store st.field) (stores_in ss) (λ st. refl) in
    let calls : call_weight w ss ≡ 0 = nothing (λ (c : CallSite). w.call c.procedure c.target) (calls_in ss) (λ c. refl) in
    let whole = weigh-is w ss in omega (arith, stores, calls, whole)

-- ---- A test of leaves: reads of the own field of a name

is_own : List ℕ → NamedLeaf → Bool
is_own name (named.param other) = false
is_own name (named.own field) = bytes_eq field name
is_own name (named.child field inner) = false

abbrev reads_own : CodeNames → List ℕ → Leaf → Bool
reads_own n name (Param k) = false
reads_own n name (Own f) = bytes_eq (n.own f) name
reads_own n name (Child f g) = false

own-read : (n : CodeNames) (params : List ParamTree) (name : List ℕ) (l : Leaf) → is_own name (named_leaf n params l) ≡ reads_own n name l
unfolding is_own
own-read n params name (Param k) = refl
own-read n params name (Own f) = refl
own-read n params name (Child f g) = refl

abbrev read_weight : CodeNames → List ℕ → Leaf → ℕ
read_weight n name l = cond (reads_own n name l) 1 0

own-moved : (n : CodeNames) (name : List ℕ) (move to : ℕ → ℕ) (l : Leaf) →
    read_weight n name (moved_leaf move to l) ≡ read_weight n name l
own-moved n name move to (Param k) = refl
own-moved n name move to (Own f) = refl
own-moved n name move to (Child f g) = refl

is_own-same : (name : List ℕ) → is_own name (own name) ≡ true
unfolding is_own
is_own-same name = (bytes_eq-Decides name name).1 refl

is_own-is : (name : List ℕ) (leaf : NamedLeaf) → is_own name leaf ≡ true → leaf ≡ own name
unfolding is_own
is_own-is name (named.param other) e = absurd (let wrong : ⊥ = cc e in wrong)
is_own-is name (named.own field) e = ap own ((bytes_eq-Decides field name).0 e)
is_own-is name (named.child field inner) e = absurd (let wrong : ⊥ = cc e in wrong)

-- what is there is counted, and what is counted is there
counted-leaf : (name : List ℕ) (leaves : List NamedLeaf) → Contains leaves (own name) → 0 < count_by (is_own name) leaves
counted-leaf name leaves has = by (count_by (is_own name) leaves) (sym (any-count (is_own name) leaves) ∙ any-there leaves has)
  where
    any-there : (ls : List NamedLeaf) → Contains ls (own name) → list_any (is_own name) ls ≡ true
    any-there [] has = absurd (in-none (own name) has)
    any-there (l ∷ ls) has = elim (in-cases l (own name) ls has) [
      | inl same ↦ or_left (is_own name l) (list_any (is_own name) ls) (ap (is_own name) same ∙ is_own-same name)
      | inr more ↦ or_right (is_own name l) (list_any (is_own name) ls) (any-there ls more)
    ]

    by : (m : ℕ) → nat_lt 0 m ≡ true → 0 < m
    by m e = grind (arith, nat_tests)

found-leaf : (name : List ℕ) (leaves : List NamedLeaf) → 0 < count_by (is_own name) leaves → Contains leaves (own name)
found-leaf name [] some = absurd (omega (arith, some))
found-leaf name (l ∷ ls) some =
    by (is_own name l) refl (subst (λ n. 0 < n) (sum_by-cons (λ x. cond (is_own name x) 1 0) l ls) some) (found-leaf name ls)
  where
    by : (b : Bool) → is_own name l ≡ b → 0 < cond b 1 0 + count_by (is_own name) ls →
        (0 < count_by (is_own name) ls → Contains ls (own name)) → Contains (l ∷ ls) (own name)
    by true e more next = subst (Contains (l ∷ ls)) (is_own-is name l e) (in-first l ls)
    by false e more next = in-rest l (own name) ls (next (omega (arith, more)))

-- what the tests of a procedure read of it
tested-weighs : (n : CodeNames) (name : List ℕ) (x : ProcedureTree) →
    count_by (is_own name) (tested_in n x) ≡ weigh (of_leaves (reads_own n name)) x.body
tested-weighs n name x =
    count-flat (λ (test : CondTree). named_leaves n x.params (cond_leaves test)) (is_own name) (tests_in x.body)
    ∙ same-by (λ test. count_by (is_own name) (named_leaves n x.params (cond_leaves test)))
    (λ test. count_by (reads_own n name) (cond_leaves test)) (tests_in x.body)
    (λ test. sum-map (named_leaf n x.params) (λ leaf. cond (is_own name leaf) 1 0) (cond_leaves test)
    ∙ (λ i. sum_by (λ l. cond (own-read n x.params name l i) 1 0) (cond_leaves test)))
    ∙ leaves-weigh (reads_own n name) x.body

-- ---- Different names

no-place : (names : List (List ℕ)) (name : List ℕ) (j : ℕ) → has_name names name ≡ false → slice_get names j ≡ Some name → ⊥
no-place [] name j apart there = cc
no-place (other ∷ names) name zero apart there =
    let same : other ≡ name = cc in
    let wrong : true ≡ false = sym ((bytes_eq-Decides name other).1 (sym same)) ∙ or-left (bytes_eq name other) (has_name names name) apart in
    cc
no-place (other ∷ names) name (suc j) apart there =
    no-place names name j (or-right (bytes_eq name other) (has_name names name) apart) there

-- one name, one place
one-place : (names : List (List ℕ)) (i j : ℕ) (name : List ℕ) → AreDistinct names → slice_get names i ≡ Some name →
    slice_get names j ≡ Some name → i ≡ j
one-place [] i j name apart one other = absurd (let wrong : ⊥ = cc one in wrong)
one-place (first ∷ names) zero zero name apart one other = refl
one-place (first ∷ names) zero (suc j) name apart one other =
    let same : first ≡ name = cc one in
    absurd (no-place names first j apart.1 (other ∙ ap Some (sym same)))
one-place (first ∷ names) (suc i) zero name apart one other =
    let same : first ≡ name = cc other in
    absurd (no-place names first i apart.1 (one ∙ ap Some (sym same)))
one-place (first ∷ names) (suc i) (suc j) name apart one other = ap suc (one-place names i j name apart.2 one other)

later-distinct : (names others : List (List ℕ)) → AreDistinct (names ++ others) → AreDistinct others
later-distinct [] others apart = apart
later-distinct (name ∷ names) others apart = later-distinct names others apart.2

-- ---- A system's procedures

module _ (p : ProgramTree) (lawful : AreProcedures p.pures p.structs [] p.procedures) (of : ℕ) (local : LocalSystem)
    (counters : List (List ℕ)) (rules : AllByRecursion (KeepsRules (names_in p of) local counters) (procedures_of p of)) where
  abbrev n : CodeNames
  n = names_in p of

  abbrev m : CodeNames
  m = renamed n (callee p)

  abbrev xs : List ProcedureTree
  xs = procedures_of p of

  abbrev ys : List ProcedureTree
  ys = procedures_of (inlined p) of

  abbrev in_struct : ProcedureTree → Bool
  in_struct x = x.of == of

  abbrev ticks : ProcedureTree → Bool
  ticks x = not (bytes_eq x.name (start_name local.row) || bytes_eq x.name (reset_name local.row))

  abbrev in_ticks : ProcedureTree → Bool
  in_ticks = both_of in_struct ticks

  -- a helper of the system is one of a group
  helper-group : (k : ℕ) (x : ProcedureTree) (s : StmtTree) (found : ℕ × List ℕ) (c : HasHelper p k x s found) → x.of ≡ of →
      (g : ℕ) × (c.helper.name ≡ group_name local.row g)
  helper-group k x s found c same =
      subst (λ b. MatchBool b ((g : ℕ) × (c.helper.name ≡ group_name local.row g)) ⊤) c.private
      (rule-at p lawful of local counters rules found.0 c.helper c.there (c.of ∙ same)).private_name

  alike-struct : (k : ℕ) (x : ProcedureTree) (s : StmtTree) (found : ℕ × List ℕ) → slice_get p.procedures k ≡ Some x →
      (c : HasHelper p k x s found) → is_interface x.name ≡ true → in_struct c.helper ≡ in_struct x
  alike-struct k x s found there c logged = ap (λ o. o == of) c.of

  alike-ticks : (k : ℕ) (x : ProcedureTree) (s : StmtTree) (found : ℕ × List ℕ) → slice_get p.procedures k ≡ Some x →
      (c : HasHelper p k x s found) → is_interface x.name ≡ true → in_ticks c.helper ≡ in_ticks x
  alike-ticks k x s found there c logged =
      ap (λ o. if o == of then ticks c.helper else false) c.of ∙ by (x.of == of) refl
    where
      by : (b : Bool) → (x.of == of) ≡ b → (if b then ticks c.helper else false) ≡ (if b then ticks x else false)
      by true e =
          let (g, is) = helper-group k x s found c (eqb-true x.of of e) in
          ap (λ name. not (bytes_eq name (start_name local.row) || bytes_eq name (reset_name local.row))) is ∙ group-ticks local.row g
          ∙ sym (logged-ticks local.row x.name logged)
      by false e = refl

  in-ticks-struct : (x : ProcedureTree) → in_ticks x ≡ true → x.of ≡ of
  in-ticks-struct x is = eqb-true x.of of (by (x.of == of) (ticks x) is)
    where
      by : (a b : Bool) → (if a then b else false) ≡ true → a ≡ true
      by true b e = refl
      by false b e = absurd (let wrong : ⊥ = cc e in wrong)

  -- ---- Stores

  stores-same : (name : List ℕ) → store_sites m (of_ticks local ys) name ≡ store_sites n (of_ticks local xs) name
  stores-same name =
      let passes : ℕ → Bool = λ f. bytes_eq (n.own f) name in
      let counted : ProcedureTree → ℕ = λ x. count_by (λ (st : StoreSite). passes st.field) (stores_in x.body) in
      let weighed : ProcedureTree → ℕ = λ x. weigh (of_stores passes) x.body in
      let same : (qs : List ProcedureTree) → sum_by (λ x. if in_ticks x then counted x else 0) qs
      ≡ sum_by (λ x. if in_ticks x then weighed x else 0) qs =
      λ qs. same-by (λ x. if in_ticks x then counted x else 0) (λ x. if in_ticks x then weighed x else 0) qs
      (λ x. ap (λ c. if in_ticks x then c else 0) (stores-weigh passes x.body)) in
      counted-twice (λ (x : ProcedureTree). stores_in x.body) (λ (st : StoreSite). passes st.field) in_struct ticks (inlined p).procedures
      ∙ same (inlined p).procedures
      ∙ all-weigh p lawful (of_stores passes) (λ k target. 0) (λ move l. refl) (length p.procedures)
      (λ k inside at keep target. refl) (omega arith) in_ticks (λ x. refl) alike-ticks
      (λ k x s found there c is dropped. refl) ∙ sym (same p.procedures)
      ∙ sym (counted-twice (λ (x : ProcedureTree). stores_in x.body) (λ (st : StoreSite). passes st.field) in_struct ticks p.procedures)

  -- ---- Calls

  -- in the procedures that pass a test, of a name that is no helper's
  calls-by : (name : List ℕ) (test : ProcedureTree → Bool) → ((x : ProcedureTree) → test (inlined_procedure p x) ≡ test x) →
      ((k : ℕ) (x : ProcedureTree) (s : StmtTree) (found : ℕ × List ℕ) → slice_get p.procedures k ≡ Some x →
      (c : HasHelper p k x s found) → is_interface x.name ≡ true → test c.helper ≡ test x) →
      ((k : ℕ) (x : ProcedureTree) (s : StmtTree) (found : ℕ × List ℕ) → slice_get p.procedures k ≡ Some x →
      (c : HasHelper p k x s found) → test x ≡ true → stays p found.0 ≡ false → bytes_eq c.helper.name name ≡ false) →
      sum_by (λ x. if test x then count_by (λ (c : CallSite). bytes_eq (m.callee c.procedure).name name) (calls_in x.body) else 0)
      (inlined p).procedures
      ≡ sum_by (λ x. if test x then count_by (λ (c : CallSite). bytes_eq (n.callee c.procedure).name name) (calls_in x.body) else 0) p.procedures
  calls-by name test same alike apart =
      let before : ℕ → Bool = λ k. bytes_eq (n.callee k).name name in
      let after : ℕ → Bool = λ k. bytes_eq (m.callee k).name name in
      let weighs : (passes : ℕ → Bool) (qs : List ProcedureTree) →
      sum_by (λ x. if test x then count_by (λ (c : CallSite). passes c.procedure) (calls_in x.body) else 0) qs
      ≡ sum_by (λ x. if test x then weigh (of_calls passes) x.body else 0) qs =
      λ passes qs. same-by (λ x. if test x then count_by (λ (c : CallSite). passes c.procedure) (calls_in x.body) else 0)
      (λ x. if test x then weigh (of_calls passes) x.body else 0) qs
      (λ x. ap (λ c. if test x then c else 0) (calls-weigh passes x.body)) in
      weighs after (inlined p).procedures
      ∙ all-weigh p lawful (of_calls before) (λ k target. cond (after k) 1 0) (λ move l. refl)
      (length p.procedures) (λ k inside at keep target. ap (λ (h : Head). cond (bytes_eq h.name name) 1 0) at) (omega arith) test same alike
      (λ k x s found there c is dropped.
      ap (λ (h : Head). cond (bytes_eq h.name name) 1 0) (head-at p found.0 c.helper c.there)
      ∙ ap (λ b. cond b 1 0) (apart k x s found there c is dropped)) ∙ sym (weighs before p.procedures)

  calls-ticks : (name : List ℕ) → ((g : ℕ) → bytes_eq (group_name local.row g) name ≡ false) →
      call_sites m (of_ticks local ys) name ≡ call_sites n (of_ticks local xs) name
  calls-ticks name apart =
      counted-twice (λ (x : ProcedureTree). calls_in x.body) (λ (c : CallSite). bytes_eq (m.callee c.procedure).name name) in_struct ticks
      (inlined p).procedures
      ∙ calls-by name in_ticks (λ x. refl) alike-ticks
      (λ k x s found there c is dropped.
      let (g, called) = helper-group k x s found c (in-ticks-struct x is) in
      ap (λ other. bytes_eq other name) called ∙ apart g)
      ∙ sym (counted-twice (λ (x : ProcedureTree). calls_in x.body) (λ (c : CallSite). bytes_eq (n.callee c.procedure).name name) in_struct
      ticks p.procedures)

  pub once-inlined : StatesOnce n local xs → StatesOnce m local ys
  once-inlined h = record {
    values =
        each-then (λ (r : LocalRow). store_sites n (of_ticks local xs) (value_name r.row) ≤ (if is_reset_outport r.kind then 2 else 1))
        (λ (r : LocalRow). store_sites m (of_ticks local ys) (value_name r.row) ≤ (if is_reset_outport r.kind then 2 else 1))
        (filter (λ (r : LocalRow). has_value r.kind) local.rows)
        (λ r one. subst (λ c. c ≤ (if is_reset_outport r.kind then 2 else 1)) (sym (stores-same (value_name r.row))) one) h.values;
    functions =
        each-then (λ (u : ChildUse). AllByRecursion (λ (g : Head). call_sites n (of_ticks local xs) g.name ≡ 1) (out_heads u.header))
        (λ (u : ChildUse). AllByRecursion (λ (g : Head). call_sites m (of_ticks local ys) g.name ≡ 1) (out_heads u.header)) local.children
        (λ u all. each-in (λ (g : Head). call_sites m (of_ticks local ys) g.name ≡ 1) (out_heads u.header)
        (λ g has. calls-ticks g.name (function-apart u.header g has)
        ∙ member (λ (o : Head). call_sites n (of_ticks local xs) o.name ≡ 1) (out_heads u.header) g all has)) h.functions;
    updates = each-then (λ (u : ChildUse). call_sites n (of_ticks local xs) (update_name u.header.row) ≡ 1)
        (λ (u : ChildUse). call_sites m (of_ticks local ys) (update_name u.header.row) ≡ 1) local.children
        (λ u one. calls-ticks (update_name u.header.row) (λ g. group-update local.row u.header.row g) ∙ one) h.updates;
  }
    where
      function-apart : (header : SystemHeader) (g : Head) → Contains (out_heads header) g → (i : ℕ) →
          bytes_eq (group_name local.row i) g.name ≡ false
      function-apart header g has i =
          let from = of-map (out_head header) (range_with_len 1 (length (header_functions header))) g has in
          subst (λ (o : Head). bytes_eq (group_name local.row i) o.name ≡ false) from.2 (group-out local.row header.row i from.0)

  -- ---- What is used

  -- calls in all the system's procedures, of the name of one that stays
  calls-all : AreDistinct (procedure_names p.procedures) → (k : ℕ) (x : ProcedureTree) → slice_get p.procedures k ≡ Some x →
      stays p k ≡ true → call_sites m ys x.name ≡ call_sites n xs x.name
  calls-all distinct k x there keep =
      counted-once (λ (y : ProcedureTree). calls_in y.body) (λ (c : CallSite). bytes_eq (m.callee c.procedure).name x.name) in_struct
      (inlined p).procedures
      ∙ calls-by x.name in_struct (λ y. refl) alike-struct
      (λ j y s found at c is dropped. other (bytes_eq c.helper.name x.name) c.helper refl found.0 c.there dropped)
      ∙ sym (counted-once (λ (y : ProcedureTree). calls_in y.body) (λ (c : CallSite). bytes_eq (n.callee c.procedure).name x.name) in_struct
      p.procedures)
    where
      other : (b : Bool) (helper : ProcedureTree) → bytes_eq helper.name x.name ≡ b → (i : ℕ) → slice_get p.procedures i ≡ Some helper →
          stays p i ≡ false → b ≡ false
      other true helper e i at dropped =
          let same = (bytes_eq-Decides helper.name x.name).0 e in
          let one = one-place (procedure_names p.procedures) i k x.name distinct
          (at-map (λ (y : ProcedureTree). y.name) p.procedures i helper at ∙ ap Some same)
          (at-map (λ (y : ProcedureTree). y.name) p.procedures k x there) in
          let wrong : false ≡ true = sym dropped ∙ ap (stays p) one ∙ keep in sym wrong
      other false helper e i at dropped = refl

  tested-same : (name : List ℕ) → count_by (is_own name) (flat_map (tested_in m) ys) ≡ count_by (is_own name) (flat_map (tested_in n) xs)
  tested-same name =
      let passes : Leaf → Bool = reads_own n name in
      let weighs : (k : CodeNames) → ((x : ProcedureTree) → count_by (is_own name) (tested_in k x) ≡ weigh (of_leaves passes) x.body) →
      (qs : List ProcedureTree) → sum_by (λ x. if in_struct x then count_by (is_own name) (tested_in k x) else 0) qs
      ≡ sum_by (λ x. if in_struct x then weigh (of_leaves passes) x.body else 0) qs =
      λ k each qs. same-by (λ x. if in_struct x then count_by (is_own name) (tested_in k x) else 0)
      (λ x. if in_struct x then weigh (of_leaves passes) x.body else 0) qs (λ x. ap (λ c. if in_struct x then c else 0) (each x)) in
      counted-once (tested_in m) (is_own name) in_struct (inlined p).procedures
      ∙ weighs m (tested-weighs m name) (inlined p).procedures
      ∙ all-weigh p lawful (of_leaves passes) (λ k target. 0) (λ move l. own-moved n name move (place p) l) (length p.procedures)
      (λ k inside at keep target. refl) (omega arith)
      in_struct (λ x. refl) alike-struct (λ k x s found there c is dropped. refl)
      ∙ sym (weighs n (tested-weighs n name) p.procedures) ∙ sym (counted-once (tested_in n) (is_own name) in_struct p.procedures)

  pub used-inlined : AreDistinct (pure_names p.pures ++ procedure_names p.procedures) → AreUsed n counters xs → AreUsed m counters ys
  used-inlined distinct h = record {
    called = each-in (λ (y : ProcedureTree). MatchBool y.private (0 < call_sites m ys y.name) ⊤) ys (λ y has. still y has);
    read = each-then (λ name. Contains (flat_map (tested_in n) xs) (own name)) (λ name. Contains (flat_map (tested_in m) ys) (own name)) counters
        (λ name has. found-leaf name (flat_map (tested_in m) ys)
        (subst (λ c. 0 < c) (sym (tested-same name)) (counted-leaf name (flat_map (tested_in n) xs) has))) h.read;
  }
    where
      apart : AreDistinct (procedure_names p.procedures)
      apart = later-distinct (pure_names p.pures) (procedure_names p.procedures) distinct

      still : (y : ProcedureTree) → Contains ys y → MatchBool y.private (0 < call_sites m ys y.name) ⊤
      still y has =
          let (among, inside) = of-filter in_struct (inlined p).procedures y has in
          let (j, there) = at-in (inlined p).procedures y among in
          let w = was p j y there in
          let x = w.procedure in
          let same : in_struct x ≡ true = ap in_struct w.is ∙ inside in
          subst (λ (z : ProcedureTree). MatchBool z.private (0 < call_sites m ys z.name) ⊤) w.is
          (subst (λ c. MatchBool x.private (0 < c) ⊤) (sym (calls-all apart w.position x w.there w.kept))
          (member (λ (z : ProcedureTree). MatchBool z.private (0 < call_sites n xs z.name) ⊤) xs x h.called
          (in-filter in_struct p.procedures x (in-at p.procedures w.position x w.there) same)))
