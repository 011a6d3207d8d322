-- A system's code has no private procedure that nothing calls, and no counter that no test reads.
use Rattle.std.specs.Prelude.{◌≡◌, refl, ℕ, zero, suc, ◌+◌, ◌/◌, ◌%◌, ◌^◌, ◌<◌, ◌≤◌, Bool, true, false, not, ◌==◌, ◌&&◌, nat_lt, MatchBool, if◌then◌else◌, List, [], ◌∷◌, ◌++◌, map, flat_map, length, slice_get, slice_index, bit_and, IsBitSet, Contains, Option, Some, bytes_eq, ⊤}
use Rattle.std.specs.Option.{option_map}
use Rattle.std.specs.List.{AllByRecursion, range_with_len, enumerate_from}
use Rattle.std.proofs.Common.{sym, ap, ap₂, subst, ◌∙◌, arith, inl, inr, true≢false}
use Rattle.std.proofs.lemmas.Bool.{eqb-true, eq-eqb, and_parts, ltb-true}
use Rattle.std.proofs.lemmas.Nat.Bits.{bit_at-suc, bit_at_lowest}
use Rattle.base_graph.proofs.lemmas.Bits.{one-from_set, set-from_one}
use Rattle.diagram_meaning.specs.Rows.{is_triggered}
use Rattle.modules_profile.specs.declared.local.LocalRow.{LocalRow}
use Rattle.modules_profile.specs.LocalSystem.{LocalSystem}
use Rattle.modules_profile.specs.SystemProfile.{SystemProfile}
use Rattle.modules_profile.specs.Locals.{own_header, outports}
use Rattle.modules_profile.specs.NodeFacts.{LocalsAreLawful, NodesReachAsRows}
use Rattle.modules_profile.proofs.lemmas.Members.{in-none, in-first, in-rest, in-cases, in-map, in-filter, of-filter, in-range, of-range, in-at, at-in, at-below, at-map, at-range, in-enumerate}
use Rattle.modules_profile.proofs.lemmas.MaskBits.{set-has}
use Rattle.modules_profile.proofs.lemmas.OwnRows.{of-flat_map}
use Rattle.modules_schedule.specs.SystemSchedule.{SystemSchedule}
use Rattle.modules_schedule.specs.Scheduling.{is_unheld, groups_holding}
use Rattle.c_syntax.specs.declared.code.Target.TheVariants.{Own as OnSelf}
use Rattle.c_syntax.specs.Tree.{read, StmtTree, StmtTrees, stmts_of_list, exprs_of_list, list_of_exprs, ParamTree, ProcedureTree}
use Rattle.emit_shape.specs.CodeNames.{CodeNames, named_leaves}
use Rattle.emit_shape.specs.Heads.{Head, out_head}
use Rattle.emit_shape.specs.NamedLeaf.{own}
use Rattle.emit_shape.specs.Names.{counter_name, group_name}
use Rattle.emit_shape.specs.Once.{call_sites}
use Rattle.emit_shape.specs.Reads.{CallSite, stmt_calls, calls_in, tests_in, cond_leaves}
use Rattle.emit_shape.specs.Slots.{Slot, value, memory, ring_items, ring_place, ring_taken, trigger, counter, instance, filler, counters_in, ring_slots, own_slots, or_filler}
use Rattle.emit_shape.specs.SystemTree.{SystemTree}
use Rattle.emit_shape.specs.Used.{tested_in, AreUsed}
use Rattle.emit_system_spec.specs.Emitted.{IsEmitted}
use Rattle.emit_system_spec.specs.EmittedCode.{joined, counted, own_call, group_params, group_procedure, function_procedure, system_code}
use Rattle.emit_system_spec.specs.Fields.{value_rows, single_rows, line_rows, child_field, call_count, shared_groups, counter_field, counter_slot, code_slots}
use Rattle.emit_system_spec.specs.Groups.{group_nodes, has_some, code_groups, own_count}
use Rattle.emit_system_spec.specs.NodeCode.{code_at}
use Rattle.emit_system_spec.specs.Places.{param_leaf}
use Rattle.right_system_shape.specs.Formed.{CodeIsUsed}
use Rattle.right_system_shape.proofs.AllOf.{all-append, all-of-map, in-left, in-right, in-flat_map}
use Rattle.right_system_shape.proofs.FieldNames.{names, own-counter}
use Rattle.right_system_shape.proofs.FunctionParams.{groups-stand}
use Rattle.right_system_shape.proofs.GroupOrder.{nodes-are, many-groups, place-has}
use Rattle.right_system_shape.proofs.Params.{bytes-same}
use Rattle.right_system_shape.proofs.ProcedureRules.{group_part, function_part, last_part, group-callee}
use Rattle.right_system_shape.proofs.Reaching as reaching
use Rattle.right_system_shape.proofs.Reaching.{giving}
use Rattle.right_system_shape.proofs.Readable.{IsReadable, emitted-readable}
use Rattle.right_system_shape.proofs.Totals.{total, one_if, count-total}

-- ---- Bits and lists

-- a number that isn't 0 has a bit
some-bit : (fuel n : ℕ) → n ≤ fuel → 0 < n → (k : ℕ) × IsBitSet n k
some-bit zero n few some = absurd (omega arith)
some-bit (suc fuel) n few some = by (n % 2) refl (λ less more. some-bit fuel (n / 2) less more)
  where
    by : (r : ℕ) → n % 2 ≡ r → (n / 2 ≤ fuel → 0 < n / 2 → (k : ℕ) × IsBitSet (n / 2) k) → (k : ℕ) × IsBitSet n k
    by zero e later =
        let half = later (omega (arith, few, some, e)) (omega (arith, some, e)) in
        (suc half.0, set-from_one n (suc half.0) (bit_at-suc n half.0 ∙ one-from_set (n / 2) half.0 half.1))
    by (suc zero) e later = (0, set-from_one n 0 (bit_at_lowest n ∙ e))
    by (suc (suc r)) e later = absurd (let low : n % 2 < 2 = omega arith in omega (arith, low, e))

total-some : {A : Type 0} (f : A → ℕ) (xs : List A) (x : A) → Contains xs x → f x ≤ total f xs
total-some f [] x h = absurd (in-none x h)
total-some f (y ∷ xs) x h = elim (in-cases y x xs h) [
  | inl same ↦ let here : f y ≡ f x = ap f same in omega (arith, here)
  | inr more ↦ let rest = total-some f xs x more in omega (arith, rest)
]

total-found : {A : Type 0} (p : A → Bool) (xs : List A) → 0 < total (λ x. one_if (p x)) xs → (x : A) × Contains xs x × (p x ≡ true)
total-found p [] some = absurd (omega arith)
total-found {A} p (x ∷ xs) some = by (p x) refl some (λ more. total-found p xs more)
  where
    by : (t : Bool) → p x ≡ t → 0 < one_if t + total (λ x. one_if (p x)) xs →
        (0 < total (λ x. one_if (p x)) xs → (y : A) × Contains xs y × (p y ≡ true)) → (y : A) × Contains (x ∷ xs) y × (p y ≡ true)
    by true e some later = (x, in-first x xs, e)
    by false e some later = let m = later (omega (arith, some)) in (m.0, in-rest x m.0 xs m.1, m.2)

-- a call in one of some statements
called-in : (ss : List StmtTree) (s : StmtTree) (c : CallSite) → Contains ss s → Contains (stmt_calls s) c →
    Contains (calls_in (stmts_of_list ss)) c
called-in [] s c h k = absurd (in-none s h)
called-in (x ∷ ss) s c h k = elim (in-cases x s ss h) [
  | inl same ↦ in-left (stmt_calls x) (calls_in (stmts_of_list ss)) c (subst (λ z. Contains (stmt_calls z) c) (sym same) k)
  | inr more ↦ in-right (stmt_calls x) (calls_in (stmts_of_list ss)) c (called-in ss s c more k)
]

-- ---- The counters among slots

counters-append : (xs ys : List Slot) → counters_in (xs ++ ys) ≡ counters_in xs ++ counters_in ys
counters-append [] ys = refl
counters-append (x ∷ xs) ys = by x (counters-append xs ys)
  where
    by : (x : Slot) → counters_in (xs ++ ys) ≡ counters_in xs ++ counters_in ys →
        counters_in (x ∷ (xs ++ ys)) ≡ counters_in (x ∷ xs) ++ counters_in ys
    by (counter name type) e = ap (λ ns. name ∷ ns) e
    by _ e = e

none-append : (xs ys : List Slot) → counters_in xs ≡ [] → counters_in ys ≡ [] → counters_in (xs ++ ys) ≡ []
none-append xs ys first second = counters-append xs ys ∙ ap₂ (λ a b. a ++ b) first second

none-mapped : {A : Type 0} (f : A → Slot) (xs : List A) → ((x : A) → counters_in (f x ∷ []) ≡ []) → counters_in (map f xs) ≡ []
none-mapped f [] none = refl
none-mapped f (x ∷ xs) none = none-append (f x ∷ []) (map f xs) (none x) (none-mapped f xs none)

none-rings : (xs : List LocalRow) → counters_in (flat_map ring_slots xs) ≡ []
none-rings [] = refl
none-rings (x ∷ xs) = none-rings xs

none-own : (local : LocalSystem) → counters_in (own_slots local) ≡ []
none-own local =
    let values = map value (value_rows local) in
    let singles = map memory (single_rows local) in
    let rings = flat_map ring_slots (line_rows local) in
    let level = (if is_triggered local.control then trigger ∷ [] else []) in
    let children = map (λ e. instance e.0 e.1) (enumerate_from 0 local.children) in
    none-append (values ++ singles ++ rings ++ level) children
    (none-append (values ++ singles ++ rings) level
    (none-append (values ++ singles) rings
    (none-append values singles (none-mapped value (value_rows local) (λ r. refl)) (none-mapped memory (single_rows local) (λ r. refl)))
    (none-rings (line_rows local)))
    (level-none (is_triggered local.control)))
    (none-mapped (λ e. instance e.0 e.1) (enumerate_from 0 local.children) (λ e. refl))
  where
    level-none : (t : Bool) → counters_in (if t then trigger ∷ [] else []) ≡ []
    level-none true = refl
    level-none false = refl

filled : (xs : List Slot) → counters_in (or_filler xs) ≡ counters_in xs
filled [] = refl
filled (x ∷ xs) = refl

shared-named : (gs : List ℕ) → counters_in (map counter_slot gs) ≡ map (λ g. counter_name (suc g)) gs
shared-named [] = refl
shared-named (g ∷ gs) = ap (λ ns. counter_name (suc g) ∷ ns) (shared-named gs)

-- the counters are those of the shared groups
counters-are : (local : LocalSystem) (schedule : SystemSchedule) → counters_in (code_slots local schedule)
    ≡ map (λ g. counter_name (suc g)) (shared_groups schedule)
counters-are local schedule =
    filled (own_slots local ++ map counter_slot (shared_groups schedule))
    ∙ counters-append (own_slots local) (map counter_slot (shared_groups schedule))
    ∙ ap₂ (λ a b. a ++ b) (none-own local) (shared-named (shared_groups schedule))

-- ---- The code of a system

module _ (reach : NodesReachAsRows) (local : LocalSystem) (profile : SystemProfile) (schedule : SystemSchedule)
    (is : IsEmitted local profile schedule) (readable : IsReadable local) where
  abbrev code : SystemTree
  code = system_code local profile schedule

  abbrev n : CodeNames
  n = names local schedule code

  abbrev holds : List ℕ
  holds = is.is_schedule.groups.holds

  abbrev groups : List ProcedureTree
  groups = group_part local profile schedule readable

  abbrev functions : List ProcedureTree
  functions = function_part local profile schedule readable

  abbrev last : List ProcedureTree
  last = last_part local profile schedule readable

  abbrev group : ℕ → ProcedureTree
  group = group_procedure local profile schedule

  abbrev function : ℕ × List ℕ → ProcedureTree
  function = function_procedure local profile schedule

  -- a function that calls a group
  record IsCalled (g : ℕ) : Type 0 where
    pub j : ℕ
    pub gs : List ℕ
    pub at : slice_get schedule.functions j ≡ Some gs
    pub among : Contains gs g

  stands : (g : ℕ) → IsCalled g → slice_get (code_groups schedule) g ≡ Some g
  stands g c = groups-stand reach local profile schedule is readable c.j c.gs g c.at c.among

  group-there : (g : ℕ) → slice_get (code_groups schedule) g ≡ Some g → Contains code.procedures (group g)
  group-there g at = in-left (groups ++ functions) last (group g)
      (in-left groups functions (group g) (in-map group (code_groups schedule) g (in-at (code_groups schedule) g g at)))

  -- ---- Counters

  counter-read : (params : List ParamTree) (f : ℕ) (o : Option ℕ) (body : StmtTrees) → o ≡ Some f →
      Contains (flat_map (λ test. named_leaves n params (cond_leaves test)) (tests_in (counted o body))) (own (n.own f))
  counter-read params f o body e =
      subst (λ o. Contains (flat_map (λ test. named_leaves n params (cond_leaves test)) (tests_in (counted o body))) (own (n.own f))) (sym e)
      (in-first (own (n.own f)) _)

  shared-called : (g : ℕ) → Contains (shared_groups schedule) g → IsCalled g
  shared-called g h =
      let test : ℕ → Bool = λ g. nat_lt 1 (call_count schedule g) in
      let more = ltb-true 1 (call_count schedule g) (of-filter test (range_with_len 0 (length schedule.groups)) g h).1 in
      let count = count-total (λ called. called == g) (flat_map (λ gs. gs) schedule.functions) in
      let found = total-found (λ called. called == g) (flat_map (λ gs. gs) schedule.functions) (omega (arith, more, count)) in
      let of = of-flat_map (λ (gs : List ℕ). gs) schedule.functions found.0 found.1 in
      let at = at-in schedule.functions of.0 of.1 in
      record { j = at.0; gs = of.0; at = at.1; among = subst (Contains of.0) (eqb-true found.0 g found.2) of.2 }

  shared-read : (g : ℕ) → Contains (shared_groups schedule) g →
      Contains (flat_map (tested_in n) code.procedures) (own (counter_name (suc g)))
  shared-read g h =
      let place = place-has (shared_groups schedule) g 0 h in
      let k = place.0 in
      let field : counter_field local schedule g ≡ Some (child_field local (length local.children) + k) =
      ap (option_map (λ k. child_field local (length local.children) + k)) place.1
      ∙ (let none : 0 + k ≡ k = omega arith in ap (λ i. Some (child_field local (length local.children) + i)) none) in
      let named = own-counter local schedule code k g place.2 in
      let params = group_params local profile schedule g in
      in-flat_map (tested_in n) code.procedures (group g) (own (counter_name (suc g))) (group-there g (stands g (shared-called g h)))
      (subst (λ name. Contains (tested_in n (group g)) (own name)) named
      (counter-read params (child_field local (length local.children) + k) (counter_field local schedule g)
      (joined (map (code_at local (own_count schedule) params) (group_nodes schedule g))) field))

  -- ---- Groups

  held : (g : ℕ) (t : Bool) → is_unheld is.is_schedule.groups g ≡ t → not t ≡ true → 0 < slice_index holds g
  held g true e has = absurd (true≢false (sym has))
  held g false e has = by (slice_index holds g) refl
    where
      by : (x : ℕ) → slice_index holds g ≡ x → 0 < slice_index holds g
      by zero none = absurd (true≢false (sym (eq-eqb (slice_index holds g) 0 none) ∙ e))
      by (suc x) some = omega (arith, some)

  some-node : (xs : List ℕ) → has_some xs ≡ true → (nth : ℕ) × Contains xs nth
  some-node [] has = absurd (true≢false (sym has))
  some-node (x ∷ xs) has = (x, in-first x xs)

  -- a group with a node is held by a function, since the node reaches an output
  group-called : (g : ℕ) → Contains (code_groups schedule) g → IsCalled g
  group-called g h =
      let shown = of-filter (λ g. has_some (group_nodes schedule g)) (range_with_len 0 (length schedule.groups)) g h in
      let range = (of-range 0 (length schedule.groups) g shown.0).1 in
      let many = many-groups local profile schedule is.is_schedule in
      let below : g < length holds = omega (arith, range, many) in
      let node = some-node (group_nodes schedule g) shown.1 in
      let kept = of-filter (λ k. (slice_index is.is_schedule.groups.of k == g) && not (is_unheld is.is_schedule.groups g))
      is.is_schedule.order node.0
      (subst (λ xs. Contains xs node.0) (nodes-are local profile schedule is.is_schedule g below) node.1) in
      let some = held g (is_unheld is.is_schedule.groups g) refl
      (and_parts (slice_index is.is_schedule.groups.of node.0 == g) (not (is_unheld is.is_schedule.groups g)) kept.1).1 in
      let bit = some-bit (slice_index holds g) (slice_index holds g) (omega arith) some in
      let has = set-has (slice_index holds g) bit.0 bit.1 in
      let r = reaching.called-reaches reach local profile schedule is node.0 bit.0 g below has node.1 in
      let needs = reaching.needs reach local profile schedule is in
      let needed = reaching.needs-many reach local profile schedule is in
      let output = at-below (outports local) r.i r.output r.at in
      let given = giving profile needs r.i is.is_profile.functions (omega (arith, needed, output)) in
      let low = at-below profile.functions bit.0 given.0 (subst (λ j. slice_get profile.functions j ≡ Some given.0) r.giving given.1) in
      let none : 0 + bit.0 ≡ bit.0 = omega arith in
      record {
        j = bit.0;
        gs = groups_holding holds bit.0;
        at = ap (λ (s : SystemSchedule). slice_get s.functions bit.0) is.is_schedule.is_schedule
            ∙ at-map (groups_holding holds) (range_with_len 0 (length profile.functions)) bit.0 bit.0
            (at-range 0 (length profile.functions) bit.0 low ∙ ap Some none);
        among = in-filter (λ g. not (bit_and (slice_index holds g) (2 ^ bit.0) == 0)) (range_with_len 0 (length holds)) g
            (in-range 0 (length holds) g (omega arith) (omega (arith, below))) has;
      }

  called-by : (g : ℕ) (c : IsCalled g) → 0 < call_sites n code.procedures (group_name local.row (suc g))
  called-by g c =
      let name = group_name local.row (suc g) in
      let body : ProcedureTree → List CallSite = λ (q : ProcedureTree). calls_in q.body in
      let params = (out_head (own_header local profile) (1 + c.j)).params in
      let calls = λ (g : ℕ). own_call params g (group_params local profile schedule g) in
      let values = exprs_of_list (map (λ (q : ParamTree). read (param_leaf params q.name)) (group_params local profile schedule g)) in
      let site : CallSite = record { procedure = g; target = OnSelf; values = list_of_exprs values } in
      let test : CallSite → Bool = λ (c : CallSite). bytes_eq (n.callee c.procedure).name name in
      let q = function (1 + c.j, c.gs) in
      let there : Contains code.procedures q = in-left (groups ++ functions) last q
      (in-right groups functions q (in-map function (enumerate_from 1 schedule.functions) (1 + c.j, c.gs)
      (in-enumerate 1 schedule.functions c.j c.gs c.at))) in
      let inside : Contains (body q) site = called-in (map calls c.gs) (calls g) site (in-map calls c.gs g c.among) (in-first site []) in
      let callee : bytes_eq (n.callee g).name name ≡ true =
      bytes-same (n.callee g).name name (ap (λ (h : Head). h.name) (group-callee local profile schedule readable g (stands g c))) in
      let one : one_if (test site) ≡ 1 = ap one_if callee in
      let least = total-some (λ c. one_if (test c)) (flat_map body code.procedures) site (in-flat_map body code.procedures q site there inside) in
      let whole = count-total test (flat_map body code.procedures) in
      omega (arith, one, least, whole)

  abbrev MustBeCalled : ProcedureTree → Type 0
  MustBeCalled q = MatchBool q.private (0 < call_sites n code.procedures q.name) ⊤

  pub code-used : AreUsed n (counters_in (code_slots local schedule)) code.procedures
  code-used = record {
    called =
        all-append MustBeCalled (groups ++ functions) last
        (all-append MustBeCalled groups functions
        (all-of-map MustBeCalled group (code_groups schedule) (λ g h. called-by g (group-called g h)))
        (all-of-map MustBeCalled function (enumerate_from 1 schedule.functions) (λ e h. tt)))
        (tt, (tt, (tt, tt)));
    read =
        subst (AllByRecursion (λ name. Contains (flat_map (tested_in n) code.procedures) (own name))) (sym (counters-are local schedule))
        (all-of-map (λ name. Contains (flat_map (tested_in n) code.procedures) (own name)) (λ g. counter_name (suc g))
        (shared_groups schedule) (λ g h. shared-read g h));
  }

pub code_is_used : LocalsAreLawful → NodesReachAsRows → CodeIsUsed
code_is_used lawful reach local profile schedule is =
    let readable : IsReadable local = emitted-readable lawful local profile schedule is in
    code-used reach local profile schedule is readable
