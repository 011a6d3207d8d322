-- What each act adds of the children.
use Rattle.std.specs.Prelude.{◌≡◌, ℕ, ◌+◌, ◌<◌, Bool, true, false, not, ◌&&◌, ◌||◌, ◌==◌, if◌then◌else◌, List, [], ◌∷◌, map, filter, length, slice_get, Contains, Option, Some, None, ℤ, refl}
use Rattle.std.specs.Option.{option_map_or}
use Rattle.std.specs.List.{enumerate_from, range_with_len}
use Rattle.std.proofs.Common.{sym, ap, subst, ◌∙◌}
use Rattle.std.proofs.Math.Path.{fun_ext}
use Rattle.std.proofs.lemmas.Bool.{eq-eqb, ne_eqb}
use Rattle.base_core.specs.declared.Control.{Control}
use Rattle.base_core.specs.declared.Control.TheVariants.{Plain, Enabled, Triggered, Both}
use Rattle.diagram_blocks.specs.Meaning.{has_value}
use Rattle.diagram_activity.specs.declared.TrigMem.{TrigMem}
use Rattle.diagram_activity.specs.Activity.{is_high, edge}
use Rattle.diagram_meaning.specs.ControlValues.{enable_in, trigger_in, is_active_by, is_off_by}
use Rattle.diagram_meaning.specs.Rows.{is_triggered}
use Rattle.diagram_blocks.specs.Kinds.{is_delay}
use Rattle.modules_profile.specs.declared.local.ChildUse.{ChildUse}
use Rattle.modules_profile.specs.declared.local.LocalRow.{LocalRow}
use Rattle.modules_profile.specs.declared.nodes.Node.{Node}
use Rattle.modules_profile.specs.declared.nodes.Node.TheVariants as node
use Rattle.modules_profile.specs.LocalSystem.{LocalSystem}
use Rattle.modules_profile.specs.LawfulLocals.{IsLocal}
use Rattle.modules_profile.proofs.lemmas.Members.{in-first, in-rest}
use Rattle.modules_schedule.specs.SystemSchedule.{SystemSchedule}
use Rattle.emit_shape.specs.Delays.{is_line}
use Rattle.right_relation.specs.Instances.{out, update, reset, none_called, with_called, InstanceTick, instance_at}
use Rattle.right_relation.specs.LocalTicks.{LocalTick, is_active, is_off}
use Rattle.right_relation.specs.NodeCode.{value_steps, memory_steps, ring_steps, trigger_steps, call_steps}
use Rattle.right_relation.specs.NodeStatements.{stored_once, stored_each}
use Rattle.right_relation.specs.Standing.{with_node, is_call_executed, called_in}
use Rattle.emit_system_spec.specs.declared.node.Place.{Place}
use Rattle.emit_system_spec.specs.declared.node.Place.TheVariants.{Row, Call}
use Rattle.emit_system_spec.specs.Fields.{value_field, memory_field, ring_field, trigger_field, child_field, counter_field, shared_groups}
use Rattle.emit_system_spec.specs.Groups.{group_nodes}
use Rattle.emit_system_spec.specs.Places.{node_places}
use Rattle.right_system_ticks.specs.CodeAccounts.{Account, takes_steps, nothing_done, stores, calls_child, and_then, all_of}
use Rattle.right_system_ticks.specs.Holding.{with_group, with_node_at, with_nodes_at, executed_in}
use Rattle.right_system_ticks.specs.OwnAccounts.{value_account, ring_places, memory_account, trigger_account, memory_reset_account, trigger_reset_account, call_account, place_account, nodes_account, child_update_account, child_reset_account, counter_account, group_account, groups_account, counters_account, update_account, reset_account}
use Rattle.right_system_ticks.specs.PlaceLaws.{HasFieldPlaces}
use Rattle.right_system_ticks.proofs.Tests.{true-false}
use Rattle.right_system_ticks.proofs.DoneGroups.{group-more, count-again}
use Rattle.right_system_ticks.proofs.FunctionRuns.{with_groups}
use Rattle.right_system_ticks.proofs.NodePlaces.{IsPlaceOf, place-at}
use Rattle.right_system_ticks.proofs.NodesOnce.{children-apart}
use Rattle.right_system_ticks.proofs.NextNodes.{At, AreNew}
use Rattle.right_system_ticks.proofs.ChildAccounts.{Functions, Goes, goes-then, goes-to, goes-stores, goes-child, goes-each, goes-all}

-- an active system isn't off
pub active-not-off : (parent : Bool) (control : Control) (remembered : TrigMem) (values : List ℤ) →
    is_active_by parent control remembered values ≡ true → is_off_by parent control values ≡ false
active-not-off parent Plain remembered values h = refl
active-not-off parent (Enabled loses) remembered values h = by parent (is_high (enable_in (Enabled loses) values)) loses h
  where
    by : (p high r : Bool) → (p && high) ≡ true → (r && (p && not high)) ≡ false
    by true true true h = refl
    by true true false h = refl
    by true false r h = absurd (true-false true refl (sym h))
    by false high r h = absurd (true-false true refl (sym h))
active-not-off parent (Triggered waits_for) remembered values h = refl
active-not-off parent (Both loses waits_for) remembered values h =
    by parent (is_high (enable_in (Both loses waits_for) values)) (edge waits_for remembered (trigger_in (Both loses waits_for) values))
    loses h
  where
    by : (p high e r : Bool) → (p && (high && e)) ≡ true → (r && (p && not high)) ≡ false
    by true true e true h = refl
    by true true e false h = refl
    by true false e r h = absurd (true-false true refl (sym h))
    by false high e r h = absurd (true-false true refl (sym h))

module _ (local : LocalSystem) (schedule : SystemSchedule) (m : LocalTick) (children : List InstanceTick)
    (places : HasFieldPlaces local schedule)
    (lawful : IsLocal local) where
  abbrev Leads : Functions → Functions → Account → Type 0
  Leads b d a = Goes local schedule children places b d a

  -- the functions of children where these nodes were executed
  abbrev pub called_by : Bool → (Node → Bool) → Functions
  called_by active executed k u = called_in active executed u

  leads-stores : (b : Functions) (n : ℕ) (stored : List ℕ → ℕ → ℕ) → ((f : ℕ) (path : List ℕ) (field : ℕ) → stored (f ∷ path) field ≡ 0) →
      Leads b b (stores n stored)
  leads-stores b n stored none = goes-stores local schedule children places b n stored none

  leads-then : (b c d : Functions) (x y : Account) → Leads b c x → Leads c d y → Leads b d (and_then x y)
  leads-then b c d x y one two = goes-then local schedule children places b c d x y one two

  leads-nothing : (b : Functions) → Leads b b nothing_done
  leads-nothing b = leads-stores b 0 (λ path field. 0) (λ f path field. refl)

  leads-once : (b : Functions) (n f : ℕ) → Leads b b (stores n (stored_once f))
  leads-once b n f = leads-stores b n (stored_once f) (λ g path field. refl)

  leads-ring : (b : Functions) (n : ℕ) (fs : List ℕ) → Leads b b (stores n (stored_each fs))
  leads-ring b n fs = leads-stores b n (stored_each fs) (λ g path field. refl)

  leads-either : (t : Bool) (b d : Functions) (x y : Account) → Leads b d x → Leads b d y → Leads b d (if t then x else y)
  leads-either true b d x y one two = one
  leads-either false b d x y one two = two

  value-leads : (b : Functions) (r : LocalRow) → Leads b b (value_account local r)
  value-leads b r =
      leads-either (has_value r.kind) b b (stores (value_steps r.op) (stored_once (value_field local r.row))) nothing_done
      (leads-once b (value_steps r.op) (value_field local r.row)) (leads-nothing b)

  memory-leads : (b : Functions) (r : LocalRow) → Leads b b (memory_account local r)
  memory-leads b r =
      leads-either (is_line r.op) b b (stores ring_steps (stored_each (ring_places local r.row)))
      (stores memory_steps (stored_once (memory_field local r.row)))
      (leads-ring b ring_steps (ring_places local r.row)) (leads-once b memory_steps (memory_field local r.row))

  trigger-leads : (b : Functions) → Leads b b (trigger_account local)
  trigger-leads b =
      leads-either (is_triggered local.control) b b (stores trigger_steps (stored_once (trigger_field local))) nothing_done
      (leads-once b trigger_steps (trigger_field local)) (leads-nothing b)

  memory-reset-leads : (b : Functions) (r : LocalRow) → Leads b b (memory_reset_account local r)
  memory-reset-leads b r =
      let fs = (ring_field local r.row + 1) ∷ (ring_field local r.row + 2) ∷ [] in
      leads-either (is_line r.op) b b (stores 2 (stored_each fs)) (stores 1 (stored_once (memory_field local r.row)))
      (leads-ring b 2 fs) (leads-once b 1 (memory_field local r.row))

  trigger-reset-leads : (b : Functions) → Leads b b (trigger_reset_account local)
  trigger-reset-leads b =
      leads-either (is_triggered local.control) b b (stores 1 (stored_once (trigger_field local))) nothing_done
      (leads-once b 1 (trigger_field local)) (leads-nothing b)

  -- ---- Nodes

  row-same : (active : Bool) (executed : Node → Bool) (b : ℕ) (u : ChildUse) →
      called_in active executed u ≡ called_in active (with_node executed (node.Row b)) u
  row-same active executed b u = fun_ext (λ j. by u.header.row j)
    where
      by : (row : Option ℕ) (j : ℕ) →
          (active && is_call_executed row executed j) ≡ (active && is_call_executed row (with_node executed (node.Row b)) j)
      by None j = refl
      by (Some e) j = refl

  call-here : (executed : Node → Bool) (e j : ℕ) (u : ChildUse) → u.header.row ≡ Some e →
      with_called (called_in true executed u) j ≡ called_in true (with_node executed (node.Call e j)) u
  call-here executed e j u row = fun_ext (λ i.
      ap (λ (o : Option ℕ). (i == j) || is_call_executed o executed i) row
      ∙ ap (λ t. (t && (i == j)) || executed (node.Call e i)) (sym (eq-eqb e e refl))
      ∙ ap (λ (o : Option ℕ). is_call_executed o (with_node executed (node.Call e j)) i) (sym row))

  call-there : (active : Bool) (executed : Node → Bool) (e j : ℕ) (v : ChildUse) → ((row : ℕ) → v.header.row ≡ Some row → row ≡ e → ⊥) →
      called_in active executed v ≡ called_in active (with_node executed (node.Call e j)) v
  call-there active executed e j v apart = fun_ext (λ i. ap (λ t. active && t) (by v.header.row i apart))
    where
      by : (o : Option ℕ) (i : ℕ) → ((row : ℕ) → o ≡ Some row → row ≡ e → ⊥) →
          is_call_executed o executed i ≡ is_call_executed o (with_node executed (node.Call e j)) i
      by None i apart = refl
      by (Some row) i apart = ap (λ t. (t && (i == j)) || executed (node.Call row i)) (sym (ne_eqb row e (apart row refl)))

  -- the call of a child's function
  call-leads : (executed : Node → Bool) (k j e : ℕ) (u : ChildUse) → slice_get local.children k ≡ Some u → u.header.row ≡ Some e →
      Leads (called_by (is_active local m) executed) (called_by (is_active local m) (with_node executed (node.Call e j)))
      (call_account local m children executed k u j)
  call-leads executed k j e u at row = by (is_active local m)
    where
      by : (t : Bool) → Leads (called_by t executed) (called_by t (with_node executed (node.Call e j)))
          (if t then calls_child call_steps (child_field local k) k (instance_at children k) (called_in true executed u) (out j)
          else takes_steps call_steps)
      by true = goes-child local schedule children places call_steps k u at (called_by true executed)
          (called_by true (with_node executed (node.Call e j))) (out j) (call-here executed e j u row)
          (λ i v at_i apart. call-there true executed e j v (λ other is same.
          apart (children-apart local lawful i k e v u at_i at (is ∙ ap Some same) row)))
      by false = leads-stores (called_by false executed) call_steps (λ path field. 0) (λ f path field. refl)

  -- the node at a place
  node-leads : (executed : Node → Bool) (n : ℕ) (y : Node) → At local n y →
      Leads (called_by (is_active local m) executed) (called_by (is_active local m) (with_node_at local executed n))
      (option_map_or (place_account local m children executed) (slice_get (node_places local) n) nothing_done)
  node-leads executed n y at =
      let p = place-at local n y at in
      subst (λ o. Leads (called_by (is_active local m) executed) (called_by (is_active local m) (with_node_at local executed n))
      (option_map_or (place_account local m children executed) o nothing_done)) (sym p.1)
      (subst (λ o. Leads (called_by (is_active local m) executed)
      (called_by (is_active local m) (option_map_or (with_node executed) o executed)) (place_account local m children executed p.0))
      (sym at)
      (by p.0 y p.2))
    where
      by : (p : Place) (y : Node) → IsPlaceOf local p y →
          Leads (called_by (is_active local m) executed) (called_by (is_active local m) (with_node executed y))
          (place_account local m children executed p)
      by (Row i) y (r, at_r, is) =
          subst (λ o. Leads (called_by (is_active local m) executed) (called_by (is_active local m) (with_node executed y))
          (option_map_or (value_account local) o nothing_done)) (sym at_r)
          (subst (λ z. Leads (called_by (is_active local m) executed) (called_by (is_active local m) (with_node executed z))
          (value_account local r)) (sym is)
          (goes-to local schedule children places (called_by (is_active local m) executed) (called_by (is_active local m) executed)
          (called_by (is_active local m) (with_node executed (node.Row r.row))) (value_account local r)
          (λ k u at_u. row-same (is_active local m) executed r.row u) (value-leads (called_by (is_active local m) executed) r)))
      by (Call k j) y (u, e, at_u, row, some, most, is) =
          subst (λ o. Leads (called_by (is_active local m) executed) (called_by (is_active local m) (with_node executed y))
          (option_map_or (λ u. call_account local m children executed k u j) o nothing_done)) (sym at_u)
          (subst (λ z. Leads (called_by (is_active local m) executed) (called_by (is_active local m) (with_node executed z))
          (call_account local m children executed k u j)) (sym is) (call-leads executed k j e u at_u row))

  pub nodes-lead : (executed : Node → Bool) (nodes : List ℕ) → AreNew local executed nodes →
      Leads (called_by (is_active local m) executed) (called_by (is_active local m) (with_nodes_at local executed nodes))
      (nodes_account local m children executed nodes)
  nodes-lead executed [] new = leads-nothing (called_by (is_active local m) executed)
  nodes-lead executed (n ∷ nodes) new =
      leads-then (called_by (is_active local m) executed) (called_by (is_active local m) (with_node_at local executed n))
      (called_by (is_active local m) (with_nodes_at local (with_node_at local executed n) nodes))
      (option_map_or (place_account local m children executed) (slice_get (node_places local) n) nothing_done)
      (nodes_account local m children (with_node_at local executed n) nodes)
      (node-leads executed n new.0.node new.0.at) (nodes-lead (with_node_at local executed n) nodes new.1)

  -- ---- Groups

  counter-leads : (b : Functions) (g : ℕ) → Leads b b (counter_account local m children schedule g)
  counter-leads b g = by (counter_field local schedule g)
    where
      by : (o : Option ℕ) → Leads b b (option_map_or (λ f. stores 1 (stored_once f)) o nothing_done)
      by None = leads-nothing b
      by (Some f) = leads-once b 1 f

  -- the functions of children where the nodes of these groups were executed
  abbrev pub with_done : (ℕ → Bool) → Functions
  with_done done = called_by (is_active local m) (executed_in local schedule done)

  group-leads : (done : ℕ → Bool) (g : ℕ) → g < length schedule.groups →
      (done g ≡ false → AreNew local (executed_in local schedule done) (group_nodes schedule g)) →
      Leads (with_done done) (with_done (with_group done g)) (group_account local m children schedule done g)
  group-leads done g below new =
      leads-then (with_done done) (with_done done) (with_done (with_group done g)) (takes_steps 2)
      (if done g then nothing_done
      else and_then (counter_account local m children schedule g)
      (nodes_account local m children (executed_in local schedule done) (group_nodes schedule g)))
      (leads-stores (with_done done) 2 (λ path field. 0) (λ f path field. refl)) (by (done g) refl)
    where
      by : (t : Bool) → done g ≡ t → Leads (with_done done) (with_done (with_group done g))
          (if t then nothing_done
          else and_then (counter_account local m children schedule g)
          (nodes_account local m children (executed_in local schedule done) (group_nodes schedule g)))
      by true is = subst (λ d. Leads (with_done done) (with_done d) nothing_done) (sym (count-again schedule done g is))
          (leads-nothing (with_done done))
      by false is =
          leads-then (with_done done) (with_done done) (with_done (with_group done g)) (counter_account local m children schedule g)
          (nodes_account local m children (executed_in local schedule done) (group_nodes schedule g)) (counter-leads (with_done done) g)
          (subst (λ executed. Leads (with_done done) (called_by (is_active local m) executed)
          (nodes_account local m children (executed_in local schedule done) (group_nodes schedule g)))
          (group-more local schedule done g below)
          (nodes-lead (executed_in local schedule done) (group_nodes schedule g) (new is)))

  pub groups-lead : (done : ℕ → Bool) (groups : List ℕ) → ((g : ℕ) → Contains groups g → g < length schedule.groups) →
      ((d : ℕ → Bool) (g : ℕ) → g < length schedule.groups → d g ≡ false →
      AreNew local (executed_in local schedule d) (group_nodes schedule g)) →
      Leads (with_done done) (with_done (with_groups done groups)) (groups_account local m children schedule done groups)
  groups-lead done [] inside new = leads-nothing (with_done done)
  groups-lead done (g ∷ groups) inside new =
      leads-then (with_done done) (with_done (with_group done g)) (with_done (with_groups (with_group done g) groups))
      (group_account local m children schedule done g) (groups_account local m children schedule (with_group done g) groups)
      (group-leads done g (inside g (in-first g groups)) (new done g (inside g (in-first g groups))))
      (groups-lead (with_group done g) groups (λ i h. inside i (in-rest g i groups h)) new)

  -- ---- The update and the reset

  abbrev none : Functions
  none k u = none_called

  updates-lead : (executed : Node → Bool) →
      Leads (called_by (is_active local m) executed) none (all_of
      (map (child_update_account local m children executed) (enumerate_from 0 local.children)))
  updates-lead executed = by (is_active local m)
    where
      by : (t : Bool) → Leads (called_by t executed) none
          (all_of (map (λ (e : ℕ × ChildUse). if t
          then calls_child call_steps (child_field local e.0) e.0 (instance_at children e.0) (called_in true executed e.1) update
          else takes_steps call_steps) (enumerate_from 0 local.children)))
      by true = goes-all local schedule children places call_steps (called_by true executed) update none (λ k u at. refl)
      by false =
          goes-each local schedule children places none (λ (e : ℕ × ChildUse). takes_steps call_steps) (enumerate_from 0 local.children)
          (λ e. leads-stores none call_steps (λ path field. 0) (λ f path field. refl))

  resets-lead : Leads none none (all_of (map (child_reset_account local m children) (enumerate_from 0 local.children)))
  resets-lead = by (is_off local m)
    where
      by : (t : Bool) → Leads none none
          (all_of (map (λ (e : ℕ × ChildUse). if t
          then calls_child call_steps (child_field local e.0) e.0 (instance_at children e.0) none_called reset
          else takes_steps call_steps) (enumerate_from 0 local.children)))
      by true = goes-all local schedule children places call_steps none reset none (λ k u at. refl)
      by false =
          goes-each local schedule children places none (λ (e : ℕ × ChildUse). takes_steps call_steps) (enumerate_from 0 local.children)
          (λ e. leads-stores none call_steps (λ path field. 0) (λ f path field. refl))

  abbrev pub delays : List LocalRow
  delays = filter (λ r. is_delay r.op) local.rows

  pub update-leads : (executed : Node → Bool) → AreNew local executed schedule.update →
      Leads (called_by (is_active local m) executed) none (update_account local m children schedule executed)
  update-leads executed new =
      let ended = with_nodes_at local executed schedule.update in
      let nodes = nodes_account local m children executed schedule.update in
      let memories = all_of (map (memory_account local) delays) in
      let updates = all_of (map (child_update_account local m children ended) (enumerate_from 0 local.children)) in
      let resets = all_of (map (child_reset_account local m children) (enumerate_from 0 local.children)) in
      let before = called_by (is_active local m) executed in
      let behind = called_by (is_active local m) ended in
      leads-then before behind none nodes (all_of (memories ∷ updates ∷ resets ∷ trigger_account local ∷ counters_account local m children
      schedule ∷ []))
      (nodes-lead executed schedule.update new)
      (leads-then behind behind none memories (all_of (updates ∷ resets ∷ trigger_account local ∷ counters_account local m children
      schedule ∷ []))
      (goes-each local schedule children places behind (memory_account local) delays (memory-leads behind))
      (leads-then behind none none updates (all_of (resets ∷ trigger_account local ∷ counters_account local m children schedule ∷ []))
      (updates-lead ended)
      (leads-then none none none resets (all_of (trigger_account local ∷ counters_account local m children schedule ∷ [])) resets-lead
      (leads-then none none none (trigger_account local) (all_of (counters_account local m children schedule ∷ [])) (trigger-leads none)
      (leads-then none none none (counters_account local m children schedule) nothing_done
      (leads-ring none (length (shared_groups schedule)) (range_with_len (child_field local (length local.children))
      (length (shared_groups schedule))))
      (leads-nothing none))))))

  pub reset-leads : Leads none none (reset_account local m children)
  reset-leads =
      let calls : ℕ × ChildUse → Account = λ e. calls_child 1 (child_field local e.0) e.0 (instance_at children e.0) none_called reset in
      leads-then none none none (all_of (map (memory_reset_account local) delays))
      (all_of (trigger_reset_account local ∷ all_of (map calls (enumerate_from 0 local.children)) ∷ []))
      (goes-each local schedule children places none (memory_reset_account local) delays (memory-reset-leads none))
      (leads-then none none none (trigger_reset_account local) (all_of (all_of (map calls (enumerate_from 0 local.children)) ∷ []))
      (trigger-reset-leads none)
      (leads-then none none none (all_of (map calls (enumerate_from 0 local.children))) nothing_done
      (goes-all local schedule children places 1 none reset none (λ k u at. refl)) (leads-nothing none)))
