-- The own steps of all calls of a tick are within the budget.
use Rattle.std.specs.Prelude.{◌≡◌, ℕ, zero, suc, ◌+◌, ◌-◌, ◌*◌, ◌<◌, ◌≤◌, nat_lt, max, Bool, true, false, if◌then◌else◌, List, [], ◌∷◌, map, filter, flat_map, length, sum_by, slice_get, Contains, IsPermutation, Option, Some, None, refl}
use Rattle.std.specs.Option.{option_map_or}
use Rattle.std.specs.List.{enumerate_from, range_with_len, fold}
use Rattle.std.proofs.Common.{sym, ap, subst, ◌∙◌, arith}
use Rattle.std.proofs.lemmas.Nat.{mul-le}
use Rattle.std.proofs.lemmas.List.{length-append, length-map}
use Rattle.std.proofs.lemmas.List.Sums.{sum_by-cons, sum_by-append}
use Rattle.std.proofs.lemmas.List.Sorted.{length_permutation, Contains-permutation, IsPermutation-sym}
use Rattle.std.proofs.lemmas.Option.{get_or_from_slice_get}
use Rattle.base_core.specs.Interface.{different}
use Rattle.diagram_blocks.specs.Value.{greatest_in}
use Rattle.diagram_meaning.specs.Rows.{is_triggered}
use Rattle.diagram_blocks.specs.Kinds.{is_delay}
use Rattle.modules_profile.specs.declared.local.ChildUse.{ChildUse}
use Rattle.modules_profile.specs.declared.local.LocalRow.{LocalRow}
use Rattle.modules_profile.specs.declared.nodes.Node.{Node}
use Rattle.modules_profile.specs.declared.nodes.Node.TheVariants as node
use Rattle.modules_profile.specs.Functions.{function_for}
use Rattle.modules_profile.specs.LocalSystem.{LocalSystem}
use Rattle.modules_profile.specs.SystemHeader.{SystemHeader}
use Rattle.modules_profile.specs.SystemProfile.{SystemProfile}
use Rattle.modules_profile.specs.LawfulLocals.{IsLocal}
use Rattle.modules_profile.specs.Headers.{header_functions}
use Rattle.modules_profile.specs.Locals.{own_header, outports}
use Rattle.modules_profile.specs.LocalNodes.{calls_of, call_nodes, node_list}
use Rattle.modules_profile.specs.NodeFacts.{LocalsAreLawful, HeaderIsOfOwnRows}
use Rattle.modules_profile.proofs.lemmas.Members.{in-first, in-rest, of-filter, of-range, at-below, in-at, at-in}
use Rattle.modules_profile.proofs.lemmas.OwnRows.{of-flat_map}
use Rattle.modules_schedule.specs.SystemSchedule.{SystemSchedule}
use Rattle.emit_shape.specs.Delays.{is_line}
use Rattle.right_relation.specs.Budgets.{most_outputs, own_budget, spent_along, IsWithinBudget}
use Rattle.right_relation.specs.Instances.{Act, out, update, reset, none_called, with_called, InstanceTick, instance_at}
use Rattle.right_relation.specs.LocalTicks.{LocalTick, is_active, is_off}
use Rattle.right_relation.specs.NodeCode.{memory_steps, ring_steps, trigger_steps, call_steps}
use Rattle.right_relation.specs.NodeStatements.{stored_once, stored_each}
use Rattle.right_relation.specs.Standing.{called_in}
use Rattle.emit_system_spec.specs.declared.node.Place.TheVariants.{Row, Call}
use Rattle.emit_system_spec.specs.Emitted.{IsEmitted}
use Rattle.emit_system_spec.specs.Fields.{memory_field, ring_field, trigger_field, child_field, call_count, shared_groups}
use Rattle.emit_system_spec.specs.Groups.{group_nodes, has_some, code_groups}
use Rattle.emit_system_spec.specs.Places.{call_places, node_places}
use Rattle.right_system_ticks.specs.ActLaws.{EmittedStepsAreFew}
use Rattle.right_system_ticks.specs.Holding.{called_groups, done_by, executed_in, with_nodes_at}
use Rattle.right_system_ticks.specs.CodeAccounts.{Account, takes_steps, nothing_done, stores, calls_child, all_of}
use Rattle.right_system_ticks.specs.OwnAccounts.{ring_places, nodes_account, update_account, reset_account, memory_account, memory_reset_account, child_update_account, child_reset_account, trigger_account, trigger_reset_account}
use Rattle.right_system_ticks.specs.OwnInstances.{own_steps}
use Rattle.right_system_ticks.specs.ScheduleLaws.{HasGroups, GroupsStandFirst}
use Rattle.right_system_ticks.proofs.Tests.{true-false}
use Rattle.right_system_ticks.proofs.DoneGroups.{called-executed, function-more}
use Rattle.right_system_ticks.proofs.FunctionRuns.{groups-called, code-group}
use Rattle.right_system_ticks.proofs.NextNodes.{AreNew}
use Rattle.right_system_ticks.proofs.GroupOrders.{group-count, group-is-new, update-is-new}
use Rattle.right_system_ticks.proofs.GivingFunctions.{needs-long}
use Rattle.right_system_ticks.proofs.FirstGroups.{kept-rising}
use Rattle.right_system_ticks.proofs.OftenLists.{some-place}
use Rattle.right_system_ticks.proofs.Potentials.{weight-most, sum-places, rising-few}
use Rattle.right_system_ticks.proofs.SpentSteps.{value_weight, place_weight, node_weight, all_nodes, executed_at, spent, nodes-spend, groups-spend}
use Rattle.right_system_ticks.proofs.RowBudgets.{memory_weight, delay_weight, rows-cost, kept-weights, filter-shorter, different-shorter, IsRowed, is-rowed}

-- ---- Steps of many accounts

many-steps : {A : Type 0} (f : A → Account) (weight : A → ℕ) (xs : List A) → ((x : A) → (f x).steps ≤ weight x) →
    (all_of (map f xs)).steps ≤ sum_by weight xs
many-steps f weight [] each = omega arith
many-steps f weight (x ∷ xs) each =
    let step = sum_by-cons weight x xs in
    let here = each x in
    let rest = many-steps f weight xs each in
    omega (arith, step, here, rest)

two-each : {A : Type 0} (i : ℕ) (xs : List A) → sum_by (λ (e : ℕ × A). 2) (enumerate_from i xs) ≡ 2 * length xs
two-each i [] = refl
two-each i (x ∷ xs) =
    let step = sum_by-cons (λ e. 2) (i, x) (enumerate_from (i + 1) xs) in
    let rest = two-each (i + 1) xs in
    omega (arith, step, rest)

ones : (xs : List ℕ) → sum_by (λ g. 1) xs ≡ length xs
ones [] = refl
ones (x ∷ xs) = let step = sum_by-cons (λ g. 1) x xs in let rest = ones xs in omega (arith, step, rest)

range-long : (a n : ℕ) → length (range_with_len a n) ≡ n
range-long a zero = refl
range-long a (suc n) = ap suc (range-long (a + 1) n)

sum-mapped : {A B : Type 0} (weight : B → ℕ) (f : A → B) (xs : List A) → sum_by weight (map f xs) ≡ sum_by (λ x. weight (f x)) xs
sum-mapped weight f [] = refl
sum-mapped weight f (x ∷ xs) =
    let a = sum_by-cons weight (f x) (map f xs) in
    let b = sum_by-cons (λ x. weight (f x)) x xs in
    let rest = sum-mapped weight f xs in
    omega (arith, a, b, rest)

either-most : (t : Bool) (a b : Account) (n : ℕ) → a.steps ≤ n → b.steps ≤ n → (if t then a else b).steps ≤ n
either-most true a b n one two = one
either-most false a b n one two = two

-- ---- Numbers

abbrev child_functions : List ChildUse → ℕ
child_functions us = sum_by (λ (u : ChildUse). length (header_functions u.header)) us

greatest-first : (x : ℕ) (xs : List ℕ) → x ≤ greatest_in (x ∷ xs)
greatest-first x xs = kept xs (max 0 x) (omega arith)
  where
    kept : (xs : List ℕ) (m : ℕ) → x ≤ m → x ≤ fold max m xs
    kept [] m low = low
    kept (y ∷ xs) m low = kept xs (max m y) (omega (arith, low))

-- where there are functions, the steps of groups are within what rows and outputs allow
enough : (y f r o c g shared rest : ℕ) → f ≤ y → c ≤ o → g ≤ r + c → shared ≤ g → (f ≡ 0 → shared ≡ 0) → rest ≤ 8 * r + 2 * c →
    rest + 2 * shared + f * (2 * g) ≤ 8 * (1 + y) * r + 4 * (1 + y) * o
enough y zero r o c g shared rest few calls groups counters none rows =
    let nothing = none refl in
    let more : 8 * (1 + y) * r ≡ 8 * r + 8 * (y * r) = omega arith in
    let outs : 4 * (1 + y) * o ≡ 4 * o + 4 * (y * o) = omega arith in
    omega (arith, nothing, more, outs, calls, rows)
enough y (suc f) r o c g shared rest few calls groups counters none rows =
    let product = mul-le (suc f) (2 * g) y (2 * (r + o)) few (omega (arith, groups, calls)) in
    let spread : y * (2 * (r + o)) ≡ 2 * (y * r) + 2 * (y * o) = omega arith in
    let least = mul-le 1 r y r (omega (arith, few)) (omega arith) in
    let more : 8 * (1 + y) * r ≡ 8 * r + 8 * (y * r) = omega arith in
    let outs : 4 * (1 + y) * o ≡ 4 * o + 4 * (y * o) = omega arith in
    omega (arith, product, spread, least, more, outs, calls, groups, counters, rows)

-- ---- Nodes and their weights

calls-weigh : (local : LocalSystem) (k b n : ℕ) → sum_by (place_weight local) (map (Call k) (range_with_len b n)) ≡ 2 * n
calls-weigh local k b zero = refl
calls-weigh local k b (suc n) =
    let step = sum_by-cons (place_weight local) (Call k b) (map (Call k) (range_with_len (b + 1) n)) in
    let rest = calls-weigh local k (b + 1) n in
    omega (arith, step, rest)

module _ (local : LocalSystem) where
  child-weighs : (k : ℕ) (u : ChildUse) → sum_by (place_weight local) (call_places (k, u)) ≤ 2 * length (header_functions u.header)
  child-weighs k u = by u.header.row
    where
      by : (o : Option ℕ) → sum_by (place_weight local) (option_map_or
          (λ row. map (Call k) (range_with_len 1 (length (header_functions u.header)))) o [])
          ≤ 2 * length (header_functions u.header)
      by None = omega arith
      by (Some row) = let is = calls-weigh local k 1 (length (header_functions u.header)) in omega (arith, is)

  children-weigh : (i : ℕ) (us : List ChildUse) →
      sum_by (place_weight local) (flat_map call_places (enumerate_from i us)) ≤ 2 * child_functions us
  children-weigh i [] = omega arith
  children-weigh i (u ∷ us) =
      let both = sum_by-append (place_weight local) (call_places (i, u)) (flat_map call_places (enumerate_from (i + 1) us)) in
      let sum = sum_by-cons (λ (u : ChildUse). length (header_functions u.header)) u us in
      let here = child-weighs i u in
      let rest = children-weigh (i + 1) us in
      omega (arith, both, sum, here, rest)

  child-long : (k : ℕ) (u : ChildUse) → length (call_places (k, u)) ≡ length (call_nodes u)
  child-long k u = by u.header.row
    where
      by : (o : Option ℕ) → length (option_map_or (λ row. map (Call k) (range_with_len 1 (length (header_functions u.header)))) o [])
          ≡ length (calls_of o (length (header_functions u.header)))
      by None = refl
      by (Some row) =
          length-map (range_with_len 1 (length (header_functions u.header))) (Call k)
          ∙ sym (length-map (range_with_len 1 (length (header_functions u.header))) (node.Call row))

  children-long : (i : ℕ) (us : List ChildUse) → length (flat_map call_places (enumerate_from i us)) ≡ length (flat_map call_nodes us)
  children-long i [] = refl
  children-long i (u ∷ us) =
      let a = length-append (call_places (i, u)) (flat_map call_places (enumerate_from (i + 1) us)) in
      let b = length-append (call_nodes u) (flat_map call_nodes us) in
      let here = child-long i u in
      let rest = children-long (i + 1) us in
      omega (arith, a, b, here, rest)

  child-few : (u : ChildUse) → length (call_nodes u) ≤ length (header_functions u.header)
  child-few u = by u.header.row
    where
      by : (o : Option ℕ) → length (calls_of o (length (header_functions u.header))) ≤ length (header_functions u.header)
      by None = omega arith
      by (Some e) =
          let made = length-map (range_with_len 1 (length (header_functions u.header))) (node.Call e) in
          let long = range-long 1 (length (header_functions u.header)) in
          omega (arith, made, long)

  children-few : (us : List ChildUse) → length (flat_map call_nodes us) ≤ child_functions us
  children-few [] = omega arith
  children-few (u ∷ us) =
      let both = length-append (call_nodes u) (flat_map call_nodes us) in
      let sum = sum_by-cons (λ (u : ChildUse). length (header_functions u.header)) u us in
      let here = child-few u in
      let rest = children-few us in
      omega (arith, both, sum, here, rest)

  nodes-few : length (node_list local) ≤ length local.rows + child_functions local.children
  nodes-few =
      let both = length-append (map (λ (r : LocalRow). node.Row r.row) local.rows) (flat_map call_nodes local.children) in
      let rows = length-map local.rows (λ (r : LocalRow). node.Row r.row) in
      let calls = children-few local.children in
      omega (arith, both, rows, calls)

  places-long : length (node_places local) ≡ length (node_list local)
  places-long =
      let a = length-append (map Row (range_with_len 0 (length local.rows))) (flat_map call_places (enumerate_from 0 local.children)) in
      let b = length-append (map (λ (r : LocalRow). node.Row r.row) local.rows) (flat_map call_nodes local.children) in
      let c = length-map (range_with_len 0 (length local.rows)) Row in
      let d = range-long 0 (length local.rows) in
      let e = length-map local.rows (λ (r : LocalRow). node.Row r.row) in
      let f = children-long 0 local.children in
      omega (arith, a, b, c, d, e, f)

  -- all nodes together
  nodes-weigh : sum_by (node_weight local) (all_nodes local) ≤ sum_by value_weight local.rows + 2 * child_functions local.children
  nodes-weigh =
      let all = ap (λ n. sum_by (node_weight local) (range_with_len 0 n)) (sym places-long)
      ∙ sum-places (node_weight local) (place_weight local) 0 (node_places local)
      (λ i p at. ap (node_weight local) (let e : 0 + i ≡ i = omega arith in e) ∙ ap (λ o. option_map_or (place_weight local) o 0) at) in
      let both = sum_by-append (place_weight local) (map Row (range_with_len 0 (length local.rows)))
      (flat_map call_places (enumerate_from 0 local.children)) in
      let rows = sum-mapped (place_weight local) Row (range_with_len 0 (length local.rows))
      ∙ sum-places (λ p. place_weight local (Row p)) value_weight 0 local.rows
      (λ i r at. ap (λ p. place_weight local (Row p)) (let e : 0 + i ≡ i = omega arith in e) ∙ ap (λ o. option_map_or value_weight o 0) at)
      in
      let calls = children-weigh 0 local.children in
      omega (arith, all, both, rows, calls)

-- ---- The steps of the update and of the reset

module _ (local : LocalSystem) (m : LocalTick) (children : List InstanceTick) (schedule : SystemSchedule) where
  abbrev delays : List LocalRow
  delays = filter (λ r. is_delay r.op) local.rows

  abbrev trigger_cost : ℕ
  trigger_cost = if is_triggered local.control then 2 else 0

  memory-most : (r : LocalRow) → (memory_account local r).steps ≤ memory_weight r
  memory-most r = by (is_line r.op)
    where
      by : (t : Bool) → (if t then stores ring_steps (stored_each (ring_places local r.row))
          else stores memory_steps (stored_once (memory_field local r.row))).steps
          ≤ (if t then ring_steps else memory_steps)
      by true = omega arith
      by false = omega arith

  memory-reset-most : (r : LocalRow) → (memory_reset_account local r).steps ≤ memory_weight r
  memory-reset-most r = by (is_line r.op)
    where
      by : (t : Bool) → (if t then stores 2 (stored_each ((ring_field local r.row + 1) ∷ (ring_field local r.row + 2) ∷ []))
          else stores 1 (stored_once (memory_field local r.row))).steps ≤ (if t then ring_steps else memory_steps)
      by true = omega arith
      by false = omega arith

  trigger-most : (trigger_account local).steps ≤ trigger_cost
  trigger-most = by (is_triggered local.control)
    where
      by : (t : Bool) → (if t then stores trigger_steps (stored_once (trigger_field local)) else nothing_done).steps ≤ (if t then 2 else 0)
      by true = omega arith
      by false = omega arith

  trigger-reset-most : (trigger_reset_account local).steps ≤ trigger_cost
  trigger-reset-most = by (is_triggered local.control)
    where
      by : (t : Bool) → (if t then stores 1 (stored_once (trigger_field local)) else nothing_done).steps ≤ (if t then 2 else 0)
      by true = omega arith
      by false = omega arith

  memories-most : (f : LocalRow → Account) → ((r : LocalRow) → (f r).steps ≤ memory_weight r) →
      (all_of (map f delays)).steps ≤ sum_by delay_weight local.rows
  memories-most f each =
      let most = many-steps f memory_weight delays each in
      let kept = kept-weights (λ (r : LocalRow). is_delay r.op) memory_weight local.rows in
      omega (arith, most, kept)

  children-most : (f : ℕ × ChildUse → Account) → ((e : ℕ × ChildUse) → (f e).steps ≤ 2) →
      (all_of (map f (enumerate_from 0 local.children))).steps ≤ 2 * length local.children
  children-most f each =
      let most = many-steps f (λ e. 2) (enumerate_from 0 local.children) each in
      let all = two-each 0 local.children in
      omega (arith, most, all)

  update-most : (executed : Node → Bool) → (update_account local m children schedule executed).steps
      ≤ (nodes_account local m children executed schedule.update).steps + sum_by delay_weight local.rows + 4 * length local.children
      + trigger_cost + length (shared_groups schedule)
  update-most executed =
      let ended = with_nodes_at local executed schedule.update in
      let memories = memories-most (memory_account local) memory-most in
      let updates = children-most (child_update_account local m children ended) (λ e. either-most (is_active local m)
      (calls_child call_steps (child_field local e.0) e.0 (instance_at children e.0) (called_in true ended e.1) update)
      (takes_steps call_steps) 2
      (omega arith) (omega arith)) in
      let resets = children-most (child_reset_account local m children) (λ e. either-most (is_off local m)
      (calls_child call_steps (child_field local e.0) e.0 (instance_at children e.0) none_called reset) (takes_steps call_steps) 2
      (omega arith) (omega arith)) in
      let trigger = trigger-most in
      omega (arith, memories, updates, resets, trigger)

  reset-most : (reset_account local m children).steps ≤ sum_by delay_weight local.rows + 2 * length local.children + trigger_cost
  reset-most =
      let memories = memories-most (memory_reset_account local) memory-reset-most in
      let calls = children-most (λ (e : ℕ × ChildUse). calls_child 1 (child_field local e.0) e.0 (instance_at children e.0)
      none_called reset)
      (λ e. omega arith) in
      let trigger = trigger-reset-most in
      omega (arith, memories, calls, trigger)

-- ---- A tick

module _ (local : LocalSystem) (profile : SystemProfile) (schedule : SystemSchedule) (m : LocalTick) (children : List InstanceTick)
    (emitted : IsEmitted local profile schedule) (lawful : IsLocal local) (has : HasGroups profile schedule) where
  abbrev h : SystemHeader
  h = own_header local profile

  abbrev groups : ℕ
  groups = length (code_groups schedule)

  abbrev own : (ℕ → Bool) → Act → ℕ
  own = own_steps local h schedule m children

  abbrev weight : (ℕ → Bool) → ℕ
  weight done = spent local m children schedule done

  abbrev trigger_most : ℕ
  trigger_most = if is_triggered local.control then 2 else 0

  abbrev last : ℕ
  last = sum_by (node_weight local) (all_nodes local) + length (shared_groups schedule)
      + sum_by delay_weight local.rows + 4 * length local.children
      + trigger_most + length (shared_groups schedule)

  new-groups : (d : ℕ → Bool) (g : ℕ) → g < length schedule.groups → d g ≡ false →
      AreNew local (executed_in local schedule d) (group_nodes schedule g)
  new-groups d g below fresh =
      let long = group-count local profile schedule emitted.is_schedule in
      group-is-new local profile schedule emitted.is_schedule lawful g d (omega (arith, below, long)) fresh

  update-spends : (called : ℕ → Bool) → weight (done_by schedule called) + own called update ≤ last
  update-spends called =
      let executed = executed_in local schedule (done_by schedule called) in
      let same = ap (λ e. (update_account local m children schedule e).steps) (called-executed local schedule profile called has) in
      let most = update-most local m children schedule executed in
      let nodes = nodes-spend local m children executed schedule.update
      (update-is-new local profile schedule emitted.is_schedule lawful (done_by schedule called)) in
      let all = weight-most (node_weight local) (executed_at local (with_nodes_at local executed schedule.update)) (all_nodes local) in
      let counters = weight-most (λ g. 1) (done_by schedule called) (shared_groups schedule) in
      let count = ones (shared_groups schedule) in
      omega (arith, same, most, nodes, all, counters, count)

  function-spends : (called : ℕ → Bool) (j : ℕ) → 0 < j → j ≤ length profile.functions →
      weight (done_by schedule called) + own called (out j) ≤ weight (done_by schedule (with_called called j)) + 2 * groups
  function-spends called j some most =
      let spends = groups-spend local m children schedule (done_by schedule called) (called_groups schedule j)
      (λ g calls. (code-group profile schedule g has (has.called j g some most calls)).1) new-groups in
      let same = ap weight (groups-called profile schedule called (with_called called j)
      j (λ g. function-more profile schedule called j g has some most)) in
      let few = rising-few 0 groups (called_groups schedule j) (has.rising j some most) (λ g calls. omega arith)
      (λ g calls. let low = has.called j g some most calls in omega (arith, low)) in
      omega (arith, spends, same, few)

  spends : (called : ℕ → Bool) (js : List ℕ) → ((j : ℕ) → Contains js j → (0 < j) × (j ≤ length profile.functions)) →
      weight (done_by schedule called) + spent_along own called js ≤ last + sum_by (λ j. 2 * groups) js
  spends called [] inside = let only = update-spends called in omega (arith, only)
  spends called (j ∷ js) inside =
      let range = inside j (in-first j js) in
      let here = function-spends called j range.0 range.1 in
      let rest = spends (with_called called j) js (λ i among. inside i (in-rest j i js among)) in
      let step = sum_by-cons (λ j. 2 * groups) j js in
      omega (arith, here, rest, step)

  -- ---- How many groups there are

  groups-few : groups ≤ length local.rows + child_functions local.children
  groups-few =
      let s = emitted.is_schedule in
      let kept = filter-shorter (λ g. has_some (group_nodes schedule g)) (range_with_len 0 (length schedule.groups)) in
      let all = range-long 0 (length schedule.groups) in
      let long = group-count local profile schedule s in
      let sets = length_permutation (different s.clusters) s.groups.holds s.are_groups.sets in
      let fewer = different-shorter s.clusters in
      let clusters = s.are_clusters.one_each in
      let count = s.are_nodes.count in
      let nodes = nodes-few local in
      omega (arith, kept, all, long, sets, fewer, clusters, count, nodes)

  -- a group that is called is one with code
  shared-called : (g : ℕ) → Contains (shared_groups schedule) g → (0 < length profile.functions) × (g < groups)
  shared-called g h =
      let m = of-filter (λ g. nat_lt 1 (call_count schedule g)) (range_with_len 0 (length schedule.groups)) g h in
      let i = some-place g (flat_map (λ (gs : List ℕ). gs) schedule.functions) (less (call_count schedule g) m.1) in
      let x = of-flat_map (λ (gs : List ℕ). gs) schedule.functions g (in-at (flat_map (λ (gs : List ℕ). gs) schedule.functions) i.0 g i.1)
      in
      let k = at-in schedule.functions x.0 x.1 in
      let low = at-below schedule.functions k.0 x.0 k.1 in
      let many = has.functions in
      let number : suc k.0 - 1 ≡ k.0 = omega arith in
      let its = get_or_from_slice_get schedule.functions (suc k.0 - 1) x.0 [] (ap (slice_get schedule.functions) number ∙ k.1) in (
        omega (arith, low, many),
        has.called (suc k.0) g (omega arith) (omega (arith, low, many)) (subst (λ gs. Contains gs g) (sym its) x.2),
      )
    where
      less : (n : ℕ) → nat_lt 1 n ≡ true → 1 ≤ n
      less zero e = absurd (true-false true refl (sym e))
      less (suc n) e = omega arith

  shared-few : length (shared_groups schedule) ≤ groups
  shared-few =
      rising-few 0 groups (shared_groups schedule) (kept-rising (λ g. nat_lt 1 (call_count schedule g)) 0 (length schedule.groups))
      (λ g h. omega arith)
      (λ g h. let low = (shared-called g h).1 in omega (arith, low))

  none-shared : length profile.functions ≡ 0 → length (shared_groups schedule) ≡ 0
  none-shared none = by (shared_groups schedule) (λ g h. let some = (shared-called g h).0 in omega (arith, some, none))
    where
      by : (gs : List ℕ) → ((g : ℕ) → Contains gs g → ⊥) → length gs ≡ 0
      by [] empty = refl
      by (g ∷ gs) empty = absurd (empty g (in-first g gs))

  module _ (outputs_long : length emitted.is_profile.needs ≡ length (outports local)) where
    functions-few : length profile.functions ≤ most_outputs local
    functions-few =
        let made = ap length emitted.is_profile.functions ∙ length-map (different emitted.is_profile.needs)
        (function_for emitted.is_profile.needs) in
        let fewer = different-shorter emitted.is_profile.needs in
        let first = greatest-first (length (outports local)) (map (λ (u : ChildUse). length u.header.outputs) local.children) in
        omega (arith, made, fewer, outputs_long, first)

    rowed : IsRowed local
    rowed = is-rowed emitted.resolved local emitted.is_resolved emitted.is_local

    abbrev child_outputs : ℕ
    child_outputs = sum_by (λ (u : ChildUse). length u.header.outputs) local.children

    ticks-few : (js : List ℕ) → IsPermutation (range_with_len 1 (length (header_functions h))) js →
        spent_along own none_called js ≤ own_budget local
    ticks-few js order =
        let all = spends none_called js (λ j among.
        let range = of-range 1 (length profile.functions) j (Contains-permutation js (range_with_len 1 (length profile.functions)) j
        (IsPermutation-sym (range_with_len 1 (length profile.functions)) js order) among) in
        (let low = range.0 in omega (arith, low), let high = range.1 in omega (arith, high))) in
        let each = repeated (2 * groups) js in
        let long = length_permutation (range_with_len 1 (length profile.functions)) js order ∙ range-long 1 (length profile.functions) in
        let times = ap (λ n. n * (2 * groups)) long in
        let nodes = nodes-weigh local in
        let rows = rows-cost local.rows in
        let kinds = rowed in
        let enough_steps = enough (most_outputs local) (length profile.functions) (length local.rows)
        child_outputs (child_functions local.children) groups
        (length (shared_groups schedule))
        (sum_by (node_weight local) (all_nodes local) + sum_by delay_weight local.rows + 4 * length local.children + trigger_most)
        functions-few kinds.functions groups-few shared-few none-shared
        (let some = kinds.children in let ports = kinds.trigger in omega (arith, nodes, rows, some, ports)) in
        omega (arith, all, each, times, enough_steps)
      where
        repeated : (n : ℕ) (xs : List ℕ) → sum_by (λ x. n) xs ≡ length xs * n
        repeated n [] = omega arith
        repeated n (x ∷ xs) = let step = sum_by-cons (λ x. n) x xs in let rest = repeated n xs in
            let more : suc (length xs) * n ≡ n + length xs * n = omega arith in omega (arith, step, rest, more)

    resets-few : own none_called reset ≤ own_budget local
    resets-few =
        let most = reset-most local m children schedule in
        let rows = rows-cost local.rows in
        let kinds = rowed in
        let some = kinds.children in
        let ports = kinds.trigger in
        let more : 8 * (1 + most_outputs local) * length local.rows ≡ 8 * length local.rows + 8 * (most_outputs local * length local.rows)
        = omega arith in
        omega (arith, most, rows, some, ports, more)

    pub in-budget : IsWithinBudget local h own
    in-budget = record { ticks = ticks-few; resets = resets-few }

module _ (locals_are_lawful : LocalsAreLawful) (header_is_of_own_rows : HeaderIsOfOwnRows) (groups_stand_first : GroupsStandFirst) where
  pub emitted_steps_are_few : EmittedStepsAreFew
  emitted_steps_are_few local profile schedule m children is =
      in-budget local profile schedule m children is (locals_are_lawful is.resolved local.row local is.is_resolved is.is_local)
      (groups_stand_first local profile schedule is) (needs-long header_is_of_own_rows local profile schedule is)
