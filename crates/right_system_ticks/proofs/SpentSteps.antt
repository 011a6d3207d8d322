-- How many own steps nodes, groups and functions take, by what is executed in them for the first time.
use Rattle.std.specs.Prelude.{◌≡◌, ◌⊎◌, ℕ, ◌+◌, ◌*◌, ◌<◌, ◌≤◌, Bool, true, false, ◌==◌, if◌then◌else◌, List, [], ◌∷◌, length, slice_get, Contains, Option, Some, None, refl}
use Rattle.std.specs.Option.{option_map, option_map_or}
use Rattle.std.specs.List.{range_with_len, position_from}
use Rattle.std.proofs.Common.{ap, subst, ◌∙◌, arith, inl, inr}
use Rattle.std.proofs.lemmas.Bool.{eqb-true, eq-eqb}
use Rattle.diagram_blocks.specs.Meaning.{has_value}
use Rattle.modules_profile.specs.declared.local.ChildUse.{ChildUse}
use Rattle.modules_profile.specs.declared.local.LocalRow.{LocalRow}
use Rattle.modules_profile.specs.declared.nodes.Node.{Node}
use Rattle.modules_profile.specs.LocalSystem.{LocalSystem}
use Rattle.modules_profile.specs.LocalNodes.{node_list}
use Rattle.modules_profile.proofs.lemmas.Members.{in-first, in-rest, in-at, in-range, at-below}
use Rattle.modules_schedule.specs.SystemSchedule.{SystemSchedule}
use Rattle.right_relation.specs.Instances.{out, InstanceTick, instance_at}
use Rattle.right_relation.specs.LocalTicks.{LocalTick, is_active}
use Rattle.right_relation.specs.NodeCode.{value_steps, call_steps}
use Rattle.right_relation.specs.NodeStatements.{stored_once}
use Rattle.right_relation.specs.Standing.{called_in}
use Rattle.emit_system_spec.specs.declared.node.Place.{Place}
use Rattle.emit_system_spec.specs.declared.node.Place.TheVariants.{Row, Call}
use Rattle.emit_system_spec.specs.Fields.{value_field, child_field, shared_groups}
use Rattle.emit_system_spec.specs.Groups.{group_nodes}
use Rattle.emit_system_spec.specs.Places.{node_places}
use Rattle.right_system_ticks.specs.CodeAccounts.{Account, takes_steps, nothing_done, stores, calls_child, and_then}
use Rattle.right_system_ticks.specs.Holding.{with_group, with_node_at, with_nodes_at, executed_in}
use Rattle.right_system_ticks.specs.OwnAccounts.{value_account, call_account, place_account, nodes_account, counter_account, group_account, groups_account}
use Rattle.right_system_ticks.proofs.Tests.{true-first, true-second, first-place as first-found}
use Rattle.right_system_ticks.proofs.DoneGroups.{group-more, count-again}
use Rattle.right_system_ticks.proofs.FunctionRuns.{with_groups}
use Rattle.right_system_ticks.proofs.NextNodes.{IsNewAt, AreNew, with-before, with-here}
use Rattle.right_system_ticks.proofs.Potentials.{passing_weight, weight-grows, weight-gains}

-- ---- Weights of nodes

-- the most steps of a row's value
abbrev pub value_weight : LocalRow → ℕ
value_weight r = if has_value r.kind then value_steps r.op else 0

module _ (local : LocalSystem) where
  abbrev pub place_weight : Place → ℕ
  place_weight (Row p) = option_map_or value_weight (slice_get local.rows p) 0
  place_weight (Call k j) = call_steps

  abbrev pub node_weight : ℕ → ℕ
  node_weight n = option_map_or place_weight (slice_get (node_places local) n) 0

  abbrev pub all_nodes : List ℕ
  all_nodes = range_with_len 0 (length (node_list local))

  -- whether the node at a place was executed
  abbrev pub executed_at : (Node → Bool) → ℕ → Bool
  executed_at executed n = option_map_or executed (slice_get (node_list local) n) false

  -- the weight of the nodes that were executed
  abbrev pub nodes_weight : (Node → Bool) → ℕ
  nodes_weight executed = passing_weight node_weight (executed_at executed) all_nodes

  executed-more : (before behind : Node → Bool) → ((x : Node) → before x ≡ true → behind x ≡ true) → (n : ℕ) → executed_at before n ≡ true →
      executed_at behind n ≡ true
  executed-more before behind more n = by (slice_get (node_list local) n)
    where
      by : (o : Option Node) → option_map_or before o false ≡ true → option_map_or behind o false ≡ true
      by None h = h
      by (Some x) h = more x h

  module _ (m : LocalTick) (children : List InstanceTick) where
    steps-either : (t : Bool) (a b : Account) (n : ℕ) → a.steps ≡ n → b.steps ≡ n → (if t then a else b).steps ≡ n
    steps-either true a b n one two = one
    steps-either false a b n one two = two

    place-steps : (executed : Node → Bool) (p : Place) → (place_account local m children executed p).steps ≤ place_weight p
    place-steps executed (Row p) = by (slice_get local.rows p)
      where
        value-steps : (r : LocalRow) (t : Bool) → (if t then stores (value_steps r.op) (stored_once (value_field local r.row))
            else nothing_done).steps
            ≤ (if t then value_steps r.op else 0)
        value-steps r true = omega arith
        value-steps r false = omega arith

        by : (o : Option LocalRow) → (option_map_or (value_account local) o nothing_done).steps ≤ option_map_or value_weight o 0
        by None = omega arith
        by (Some r) = value-steps r (has_value r.kind)
    place-steps executed (Call k j) = by (slice_get local.children k)
      where
        by : (o : Option ChildUse) → (option_map_or (λ u. call_account local m children executed k u j) o nothing_done).steps ≤ call_steps
        by None = omega arith
        by (Some u) =
            let is = steps-either (is_active local m)
            (calls_child call_steps (child_field local k) k (instance_at children k) (called_in true executed u) (out j))
            (takes_steps call_steps) call_steps
            refl refl in
            omega (arith, is)

    node-steps : (executed : Node → Bool) (n : ℕ) →
        (option_map_or (place_account local m children executed) (slice_get (node_places local) n) nothing_done).steps ≤ node_weight n
    node-steps executed n = by (slice_get (node_places local) n)
      where
        by : (o : Option Place) → (option_map_or (place_account local m children executed) o nothing_done).steps ≤ option_map_or
            place_weight o 0
        by None = omega arith
        by (Some p) = place-steps executed p

    node-gains : (executed : Node → Bool) (n : ℕ) → IsNewAt local executed n →
        nodes_weight executed + node_weight n ≤ nodes_weight (with_node_at local executed n)
    node-gains executed n new =
        weight-gains node_weight (executed_at executed) (executed_at (with_node_at local executed n)) all_nodes n
        (executed-more executed (with_node_at local executed n) (λ x h. with-before local executed n x h))
        (in-range 0 (length (node_list local)) n (omega arith) (let low = at-below (node_list local) n new.node new.at in
        omega (arith, low)))
        (ap (λ o. option_map_or executed o false) new.at ∙ new.is_new)
        (ap (λ o. option_map_or (with_node_at local executed n) o false) new.at ∙ with-here local executed n new.node new.at)

    pub nodes-spend : (executed : Node → Bool) (nodes : List ℕ) → AreNew local executed nodes →
        nodes_weight executed + (nodes_account local m children executed nodes).steps ≤ nodes_weight (with_nodes_at local executed nodes)
    nodes-spend executed [] new = omega arith
    nodes-spend executed (n ∷ nodes) new =
        let here = node-steps executed n in
        let gain = node-gains executed n new.0 in
        let rest = nodes-spend (with_node_at local executed n) nodes new.1 in
        omega (arith, here, gain, rest)

    -- ---- Groups

    module _ (schedule : SystemSchedule) where
      -- a counter is set in one step
      abbrev counter_weight : ℕ → ℕ
      counter_weight g = 1

      abbrev pub counters_weight : (ℕ → Bool) → ℕ
      counters_weight done = passing_weight counter_weight done (shared_groups schedule)

      counter-spends : (done : ℕ → Bool) (g : ℕ) → done g ≡ false →
          counters_weight done + (counter_account local m children schedule g).steps ≤ counters_weight (with_group done g)
      counter-spends done g fresh = by (first-found (λ key. key == g) 0 (shared_groups schedule))
        where
          more : (i : ℕ) → done i ≡ true → with_group done g i ≡ true
          more i h = true-second (i == g) (done i) h

          by : ((position_from (λ key. key == g) 0 (shared_groups schedule) ≡ None)
              × ((x : ℕ) → Contains (shared_groups schedule) x → (x == g) ≡ false))
              ⊎ ((k : ℕ) × (x : ℕ) × (position_from (λ key. key == g) 0 (shared_groups schedule) ≡ Some (0 + k))
              × (slice_get (shared_groups schedule) k ≡ Some x) × ((x == g) ≡ true)) →
              counters_weight done + (counter_account local m children schedule g).steps ≤ counters_weight (with_group done g)
          by (inl (none, fails)) =
              let zero_steps : (counter_account local m children schedule g).steps ≡ 0 =
              ap (λ o. (option_map_or (λ f. stores 1 (stored_once f)) (option_map (λ k. child_field local (length local.children) + k) o)
              nothing_done).steps) none in
              let grows = weight-grows counter_weight done (with_group done g) (shared_groups schedule) more in
              omega (arith, zero_steps, grows)
          by (inr (k, x, found, at, passes)) =
              let one_step : (counter_account local m children schedule g).steps ≡ 1 =
              ap (λ o. (option_map_or (λ f. stores 1 (stored_once f)) (option_map (λ k. child_field local (length local.children) + k) o)
              nothing_done).steps) found in
              let gains = weight-gains counter_weight done (with_group done g) (shared_groups schedule) g more
              (subst (Contains (shared_groups schedule)) (eqb-true x g passes) (in-at (shared_groups schedule) k x at)) fresh
              (true-first (g == g) (done g) (eq-eqb g g refl)) in
              omega (arith, one_step, gains)

      -- what was executed in these groups
      abbrev pub spent : (ℕ → Bool) → ℕ
      spent done = nodes_weight (executed_in local schedule done) + counters_weight done

      group-spends : (done : ℕ → Bool) (g : ℕ) → g < length schedule.groups →
          (done g ≡ false → AreNew local (executed_in local schedule done) (group_nodes schedule g)) →
          spent done + (group_account local m children schedule done g).steps ≤ spent (with_group done g) + 2
      group-spends done g below new = by (done g) refl
        where
          nodes : Account
          nodes = nodes_account local m children (executed_in local schedule done) (group_nodes schedule g)

          by : (t : Bool) → done g ≡ t →
              spent done + (2 + (if t then nothing_done
              else and_then (counter_account local m children schedule g)
              (nodes_account local m children (executed_in local schedule done) (group_nodes schedule g))).steps)
              ≤ spent (with_group done g) + 2
          by true is = let same = ap spent (count-again schedule done g is) in omega (arith, same)
          by false is =
              let one = nodes-spend (executed_in local schedule done) (group_nodes schedule g) (new is) in
              let two = counter-spends done g is in
              let same = ap nodes_weight (group-more local schedule done g below) in
              omega (arith, one, two, same)

      pub groups-spend : (done : ℕ → Bool) (groups : List ℕ) → ((g : ℕ) → Contains groups g → g < length schedule.groups) →
          ((d : ℕ → Bool) (g : ℕ) → g < length schedule.groups → d g ≡ false →
          AreNew local (executed_in local schedule d) (group_nodes schedule g)) →
          spent done + (groups_account local m children schedule done groups).steps ≤ spent (with_groups done groups) + 2 * length groups
      groups-spend done [] inside new = omega arith
      groups-spend done (g ∷ groups) inside new =
          let here = group-spends done g (inside g (in-first g groups)) (new done g (inside g (in-first g groups))) in
          let rest = groups-spend (with_group done g) groups (λ i h. inside i (in-rest g i groups h)) new in
          omega (arith, here, rest)
