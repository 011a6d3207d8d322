-- Each own value is stored once at most, in the act in which its row is executed.
use Rattle.std.specs.Prelude.{◌≡◌, ◌⊎◌, ℕ, ◌+◌, ◌<◌, ◌≤◌, Bool, true, false, ◌==◌, if◌then◌else◌, cond, List, [], ◌∷◌, map, filter, length, slice_get, Contains, Some, None, refl}
use Rattle.std.specs.Option.{option_map, option_map_or}
use Rattle.std.specs.List.{enumerate_from, range_with_len, position_from}
use Rattle.std.proofs.Common.{sym, ap, subst, ◌∙◌, arith, inl, inr}
use Rattle.std.proofs.lemmas.Bool.{cases_eq, eq-eqb, ne_eqb}
use Rattle.std.proofs.lemmas.List.Sums.{sum_by-cons}
use Rattle.std.proofs.lemmas.Option.{same_Some}
use Rattle.diagram_blocks.specs.declared.Op.{Op}
use Rattle.diagram_blocks.specs.declared.Op.TheVariants as op
use Rattle.diagram_blocks.specs.Meaning.{has_value}
use Rattle.diagram_meaning.specs.Rows.{is_triggered}
use Rattle.diagram_blocks.specs.Kinds.{is_delay}
use Rattle.modules_profile.specs.declared.local.ChildUse.{ChildUse}
use Rattle.modules_profile.specs.declared.local.LocalRow.{LocalRow}
use Rattle.modules_profile.specs.declared.nodes.Node.{Node}
use Rattle.modules_profile.specs.declared.nodes.Node.TheVariants as node
use Rattle.modules_profile.specs.LocalSystem.{LocalSystem}
use Rattle.modules_profile.specs.LocalNodes.{same_node}
use Rattle.modules_profile.proofs.lemmas.Members.{in-none, in-first, in-rest, in-cases, in-at, at-in, of-filter, below-at, range-at}
use Rattle.modules_schedule.specs.SystemSchedule.{SystemSchedule}
use Rattle.emit_shape.specs.Delays.{is_single, is_line}
use Rattle.emit_shape.specs.Slots.{Slot, value, memory, ring_items, ring_place, ring_taken, trigger}
use Rattle.right_relation.specs.Instances.{out, update, reset, none_called, InstanceTick, instance_at}
use Rattle.right_relation.specs.LocalTicks.{LocalTick, is_active, is_off}
use Rattle.right_relation.specs.NodeCode.{value_steps, memory_steps, ring_steps, trigger_steps, call_steps}
use Rattle.right_relation.specs.NodeStatements.{stored_once, stored_each}
use Rattle.right_relation.specs.Standing.{with_node, called_in}
use Rattle.emit_system_spec.specs.declared.node.Place.{Place}
use Rattle.emit_system_spec.specs.declared.node.Place.TheVariants.{Row, Call}
use Rattle.emit_system_spec.specs.Fields.{value_field, memory_field, ring_field, trigger_field, child_field, counter_slot, shared_groups, code_slots}
use Rattle.emit_system_spec.specs.Groups.{group_nodes}
use Rattle.emit_system_spec.specs.Places.{node_places}
use Rattle.right_system_ticks.specs.CodeAccounts.{Account, takes_steps, nothing_done, stores, calls_child, and_then, all_of}
use Rattle.right_system_ticks.specs.Holding.{with_group, with_node_at, with_nodes_at, executed_in}
use Rattle.right_system_ticks.specs.OwnAccounts.{value_account, ring_places, memory_account, trigger_account, memory_reset_account, trigger_reset_account, call_account, place_account, nodes_account, child_update_account, child_reset_account, counter_account, group_account, groups_account, counters_account, update_account, reset_account}
use Rattle.right_system_ticks.specs.PlaceLaws.{HasFieldPlaces}
use Rattle.right_system_ticks.proofs.Tests.{true-false, true-first, true-second, first-place as first-found}
use Rattle.right_system_ticks.proofs.DoneGroups.{group-more, count-again}
use Rattle.right_system_ticks.proofs.FunctionRuns.{with_groups}
use Rattle.right_system_ticks.proofs.NodePlaces.{IsPlaceOf, place-at}
use Rattle.right_system_ticks.proofs.NextNodes.{At, AreNew}
use Rattle.right_system_ticks.proofs.OftenLists.{bit}

-- a delay has one field, or three
line-or-single : (o : Op) → is_delay o ≡ true → is_line o ≡ false → is_single o ≡ true
line-or-single (op.Delay initial) h e = refl
line-or-single (op.Line samples start) h e = absurd (true-false true refl e)
line-or-single _ h e = h

-- a field that is none of these
once-not : (g f : ℕ) → (f ≡ g → ⊥) → stored_once g [] f ≡ 0
once-not g f apart = by (f == g) (ne_eqb f g apart)
  where
    by : (t : Bool) → t ≡ false → bit t ≡ 0
    by true e = absurd (true-false true refl e)
    by false e = refl

each-not : (fs : List ℕ) (f : ℕ) → ((g : ℕ) → Contains fs g → f ≡ g → ⊥) → stored_each fs [] f ≡ 0
each-not [] f apart = refl
each-not (g ∷ fs) f apart =
    let step = sum_by-cons (λ g. cond (f == g) 1 0) g fs in
    let here = ap bit (ne_eqb f g (apart g (in-first g fs))) in
    let rest = each-not fs f (λ i h. apart i (in-rest g i fs h)) in
    omega (arith, step, here, rest)

module _ (local : LocalSystem) (schedule : SystemSchedule) (m : LocalTick) (children : List InstanceTick)
    (places : HasFieldPlaces local schedule)
    (f : ℕ) (r : LocalRow) (at : slice_get (code_slots local schedule) f ≡ Some (value r)) where
  -- the field isn't stored
  abbrev Keeps : Account → Type 0
  Keeps a = a.stored [] f ≡ 0

  -- the field is stored once at most, where the row wasn't executed before and is afterwards
  abbrev pub StoresOnce : (Node → Bool) → (Node → Bool) → Account → Type 0
  StoresOnce before behind a = bit (before (node.Row r.row)) + a.stored [] f ≤ bit (behind (node.Row r.row))

  other-slot : (g : ℕ) (x : Slot) → slice_get (code_slots local schedule) g ≡ Some x → (value r ≡ x → ⊥) → f ≡ g → ⊥
  other-slot g x at_g apart same = apart (same_Some (value r) x (sym at ∙ ap (slice_get (code_slots local schedule)) same ∙ at_g))

  keeps-then : (a b : Account) → Keeps a → Keeps b → Keeps (and_then a b)
  keeps-then a b one two = omega (arith, one, two)

  keeps-either : (t : Bool) (a b : Account) → (t ≡ true → Keeps a) → (t ≡ false → Keeps b) → Keeps (if t then a else b)
  keeps-either true a b one two = one refl
  keeps-either false a b one two = two refl

  keeps-each : {A : Type 0} (g : A → Account) (xs : List A) → ((x : A) → Contains xs x → Keeps (g x)) → Keeps (all_of (map g xs))
  keeps-each g [] each = refl
  keeps-each g (x ∷ xs) each = keeps-then (g x) (all_of (map g xs)) (each x (in-first x xs))
      (keeps-each g xs (λ y h. each y (in-rest x y xs h)))

  keeps-same : (before behind : Node → Bool) (a : Account) → Keeps a →
      (before (node.Row r.row) ≡ true → behind (node.Row r.row) ≡ true) → StoresOnce before behind a
  keeps-same before behind a keeps more = by (before (node.Row r.row)) (behind (node.Row r.row)) more
    where
      by : (s t : Bool) → (s ≡ true → t ≡ true) → bit s + a.stored [] f ≤ bit t
      by true true more = omega (arith, keeps)
      by true false more = absurd (true-false false (more refl) refl)
      by false t more = omega (arith, keeps)

  once-then : (before middle behind : Node → Bool) (a b : Account) → StoresOnce before middle a → StoresOnce middle behind b →
      StoresOnce before behind (and_then a b)
  once-then before middle behind a b one two = omega (arith, one, two)

  -- ---- Rows

  items-not : (q : LocalRow) → Contains local.rows q → is_line q.op ≡ true → f ≡ ring_field local q.row → ⊥
  items-not q own line = other-slot (ring_field local q.row) (ring_items q) (places.items q own line) (λ e. let wrong : ⊥ = cc e in wrong)

  place-not : (q : LocalRow) → Contains local.rows q → is_line q.op ≡ true → f ≡ ring_field local q.row + 1 → ⊥
  place-not q own line = other-slot (ring_field local q.row + 1) (ring_place q) (places.places q own line)
      (λ e. let wrong : ⊥ = cc e in wrong)

  count-not : (q : LocalRow) → Contains local.rows q → is_line q.op ≡ true → f ≡ ring_field local q.row + 2 → ⊥
  count-not q own line = other-slot (ring_field local q.row + 2) (ring_taken q) (places.counts q own line)
      (λ e. let wrong : ⊥ = cc e in wrong)

  single-not : (q : LocalRow) → Contains local.rows q → is_single q.op ≡ true → f ≡ memory_field local q.row → ⊥
  single-not q own single = other-slot (memory_field local q.row) (memory q) (places.memories q own single)
      (λ e. let wrong : ⊥ = cc e in wrong)

  two-not : (a b g : ℕ) → (f ≡ a → ⊥) → (f ≡ b → ⊥) → Contains (a ∷ b ∷ []) g → f ≡ g → ⊥
  two-not a b g one two h same = elim (in-cases a g (b ∷ []) h) [
    | inl is ↦ one (same ∙ sym is)
    | inr more ↦ elim (in-cases b g [] more) [ inl is ↦ two (same ∙ sym is) | inr none ↦ in-none g none ]
  ]

  delay-own : (q : LocalRow) → Contains (filter (λ r. is_delay r.op) local.rows) q → Contains local.rows q × (is_delay q.op ≡ true)
  delay-own q h = of-filter (λ r. is_delay r.op) local.rows q h

  memory-keeps : (q : LocalRow) → Contains (filter (λ r. is_delay r.op) local.rows) q → Keeps (memory_account local q)
  memory-keeps q h =
      let own = delay-own q h in
      keeps-either (is_line q.op) (stores ring_steps (stored_each (ring_places local q.row)))
      (stores memory_steps (stored_once (memory_field local q.row)))
      (λ line. each-not (ring_places local q.row) f (λ g there same.
      elim (in-cases (ring_field local q.row) g ((ring_field local q.row + 1) ∷ (ring_field local q.row + 2) ∷ []) there) [
        | inl is ↦ items-not q own.0 line (same ∙ sym is)
        | inr more ↦ two-not (ring_field local q.row + 1) (ring_field local q.row + 2) g (place-not q own.0 line) (count-not q own.0 line)
            more same
      ]))
      (λ short. once-not (memory_field local q.row) f (single-not q own.0 (line-or-single q.op own.1 short)))

  memory-reset-keeps : (q : LocalRow) → Contains (filter (λ r. is_delay r.op) local.rows) q → Keeps (memory_reset_account local q)
  memory-reset-keeps q h =
      let own = delay-own q h in
      let fs = (ring_field local q.row + 1) ∷ (ring_field local q.row + 2) ∷ [] in
      keeps-either (is_line q.op) (stores 2 (stored_each fs)) (stores 1 (stored_once (memory_field local q.row)))
      (λ line. each-not fs f (λ g there. two-not (ring_field local q.row + 1) (ring_field local q.row + 2) g (place-not q own.0 line)
      (count-not q own.0 line) there))
      (λ short. once-not (memory_field local q.row) f (single-not q own.0 (line-or-single q.op own.1 short)))

  trigger-not : is_triggered local.control ≡ true → f ≡ trigger_field local → ⊥
  trigger-not is = other-slot (trigger_field local) trigger (places.trigger is) (λ e. let wrong : ⊥ = cc e in wrong)

  trigger-keeps : Keeps (trigger_account local)
  trigger-keeps =
      keeps-either (is_triggered local.control) (stores trigger_steps (stored_once (trigger_field local))) nothing_done
      (λ is. once-not (trigger_field local) f (trigger-not is)) (λ is. refl)

  trigger-reset-keeps : Keeps (trigger_reset_account local)
  trigger-reset-keeps =
      keeps-either (is_triggered local.control) (stores 1 (stored_once (trigger_field local))) nothing_done
      (λ is. once-not (trigger_field local) f (trigger-not is)) (λ is. refl)

  counter-not : (k g : ℕ) → slice_get (shared_groups schedule) k ≡ Some g → f ≡ child_field local (length local.children) + k → ⊥
  counter-not k g at_g = other-slot (child_field local (length local.children) + k) (counter_slot g) (places.counters k g at_g)
      (λ e. let wrong : ⊥ = cc e in wrong)

  counter-keeps : (g : ℕ) → Keeps (counter_account local m children schedule g)
  counter-keeps g = by (first-found (λ key. key == g) 0 (shared_groups schedule))
    where
      by : ((position_from (λ key. key == g) 0 (shared_groups schedule) ≡ None)
          × ((x : ℕ) → Contains (shared_groups schedule) x → (x == g) ≡ false))
          ⊎ ((k : ℕ) × (x : ℕ) × (position_from (λ key. key == g) 0 (shared_groups schedule) ≡ Some (0 + k))
          × (slice_get (shared_groups schedule) k ≡ Some x) × ((x == g) ≡ true)) → Keeps (counter_account local m children schedule g)
      by (inl (none, fails)) = ap (λ o. (option_map_or (λ f. stores 1 (stored_once f))
          (option_map (λ k. child_field local (length local.children) + k) o) nothing_done).stored [] f) none
      by (inr (k, x, found, at_k, passes)) =
          ap (λ o. (option_map_or (λ f. stores 1 (stored_once f))
          (option_map (λ k. child_field local (length local.children) + k) o) nothing_done).stored [] f) found
          ∙ once-not (child_field local (length local.children) + (0 + k)) f
          (λ same. counter-not k x at_k (same ∙ ap (λ n. child_field local (length local.children) + n)
          (let e : 0 + k ≡ k = omega arith in e)))

  counters-keep : Keeps (counters_account local m children schedule)
  counters-keep =
      each-not (range_with_len (child_field local (length local.children)) (length (shared_groups schedule))) f (λ g h same.
      let base = child_field local (length local.children) in
      let i = at-in (range_with_len base (length (shared_groups schedule))) g h in
      let place = range-at base (length (shared_groups schedule)) i.0 g i.1 in
      let x = below-at (shared_groups schedule) i.0 place.0 in
      counter-not i.0 x.0 x.1 (same ∙ sym place.1))

  -- ---- Nodes

  row-once : (executed : Node → Bool) (q : LocalRow) → Contains local.rows q → executed (node.Row q.row) ≡ false →
      StoresOnce executed (with_node executed (node.Row q.row)) (value_account local q)
  row-once executed q own new = by (has_value q.kind) refl (cases_eq f (value_field local q.row))
    where
      account : Bool → Account
      account t = if t then stores (value_steps q.op) (stored_once (value_field local q.row)) else nothing_done

      more : executed (node.Row r.row) ≡ true → with_node executed (node.Row q.row) (node.Row r.row) ≡ true
      more h = true-second (r.row == q.row) (executed (node.Row r.row)) h

      by : (t : Bool) → has_value q.kind ≡ t → (f ≡ value_field local q.row) ⊎ (f ≡ value_field local q.row → ⊥) →
          StoresOnce executed (with_node executed (node.Row q.row))
          (if t then stores (value_steps q.op) (stored_once (value_field local q.row)) else nothing_done)
      by false has either = keeps-same executed (with_node executed (node.Row q.row)) nothing_done refl more
      by true has (inr apart) =
          keeps-same executed (with_node executed (node.Row q.row)) (stores (value_steps q.op) (stored_once (value_field local q.row)))
          (once-not (value_field local q.row) f apart) more
      by true has (inl same) =
          let slot : value r ≡ value q = same_Some (value r) (value q)
          (sym at ∙ ap (slice_get (code_slots local schedule)) same ∙ places.values q own has) in
          let one : r ≡ q = cc slot in
          let before = ap bit (ap (λ (r : LocalRow). executed (node.Row r.row)) one ∙ new) in
          let behind = ap bit (true-first (r.row == q.row) (executed (node.Row r.row))
          (eq-eqb r.row q.row (ap (λ (r : LocalRow). r.row) one))) in
          let stored = ap bit (eq-eqb f (value_field local q.row) same) in
          sums before stored behind
        where
          sums : {a b c : ℕ} → a ≡ 0 → b ≡ 1 → c ≡ 1 → a + b ≤ c
          sums p q r = omega (arith, p, q, r)

  call-keeps : (executed : Node → Bool) (k : ℕ) (u : ChildUse) (j : ℕ) → Keeps (call_account local m children executed k u j)
  call-keeps executed k u j =
      keeps-either (is_active local m)
      (calls_child call_steps (child_field local k) k (instance_at children k) (called_in true executed u) (out j)) (takes_steps call_steps)
      (λ is. refl) (λ is. refl)

  node-once : (executed : Node → Bool) (n : ℕ) (y : Node) → At local n y → executed y ≡ false →
      StoresOnce executed (with_node_at local executed n)
      (option_map_or (place_account local m children executed) (slice_get (node_places local) n) nothing_done)
  node-once executed n y at_n new =
      let p = place-at local n y at_n in
      subst (λ o. StoresOnce executed (with_node_at local executed n)
      (option_map_or (place_account local m children executed) o nothing_done)) (sym p.1)
      (subst (λ o. StoresOnce executed (option_map_or (with_node executed) o executed) (place_account local m children executed p.0))
      (sym at_n)
      (by p.0 y p.2 new))
    where
      by : (p : Place) (y : Node) → IsPlaceOf local p y → executed y ≡ false →
          StoresOnce executed (with_node executed y) (place_account local m children executed p)
      by (Row i) y (q, at_q, is) new =
          subst (λ o. StoresOnce executed (with_node executed y) (option_map_or (value_account local) o nothing_done)) (sym at_q)
          (subst (λ z. StoresOnce executed (with_node executed z) (value_account local q)) (sym is)
          (row-once executed q (in-at local.rows i q at_q) (ap executed (sym is) ∙ new)))
      by (Call k j) y (u, e, at_u, row, some, most, is) new =
          subst (λ o. StoresOnce executed (with_node executed y)
          (option_map_or (λ u. call_account local m children executed k u j) o nothing_done)) (sym at_u)
          (keeps-same executed (with_node executed y) (call_account local m children executed k u j) (call-keeps executed k u j)
          (λ h. true-second (same_node (node.Row r.row) y) (executed (node.Row r.row)) h))

  pub nodes-once : (executed : Node → Bool) (nodes : List ℕ) → AreNew local executed nodes →
      StoresOnce executed (with_nodes_at local executed nodes) (nodes_account local m children executed nodes)
  nodes-once executed [] new = keeps-same executed executed nothing_done refl (λ h. h)
  nodes-once executed (n ∷ nodes) new =
      once-then executed (with_node_at local executed n) (with_nodes_at local (with_node_at local executed n) nodes)
      (option_map_or (place_account local m children executed) (slice_get (node_places local) n) nothing_done)
      (nodes_account local m children (with_node_at local executed n) nodes)
      (node-once executed n new.0.node new.0.at new.0.is_new) (nodes-once (with_node_at local executed n) nodes new.1)

  group-once : (done : ℕ → Bool) (g : ℕ) → g < length schedule.groups →
      (done g ≡ false → AreNew local (executed_in local schedule done) (group_nodes schedule g)) →
      StoresOnce (executed_in local schedule done) (executed_in local schedule (with_group done g))
      (group_account local m children schedule done g)
  group-once done g below new =
      once-then (executed_in local schedule done) (executed_in local schedule done) (executed_in local schedule (with_group done g))
      (takes_steps 2)
      (if done g then nothing_done else more)
      (keeps-same (executed_in local schedule done) (executed_in local schedule done) (takes_steps 2) refl (λ h. h)) (by (done g) refl)
    where
      nodes : Account
      nodes = nodes_account local m children (executed_in local schedule done) (group_nodes schedule g)

      more : Account
      more = and_then (counter_account local m children schedule g) nodes

      by : (t : Bool) → done g ≡ t →
          StoresOnce (executed_in local schedule done) (executed_in local schedule (with_group done g)) (if t then nothing_done else more)
      by true is =
          subst (λ d. StoresOnce (executed_in local schedule done) (executed_in local schedule d) nothing_done)
          (sym (count-again schedule done g is))
          (keeps-same (executed_in local schedule done) (executed_in local schedule done) nothing_done refl (λ h. h))
      by false is =
          once-then (executed_in local schedule done) (executed_in local schedule done) (executed_in local schedule (with_group done g))
          (counter_account local m children schedule g) nodes
          (keeps-same (executed_in local schedule done) (executed_in local schedule done) (counter_account local m children schedule g)
          (counter-keeps g) (λ h. h))
          (subst (λ executed. StoresOnce (executed_in local schedule done) executed nodes) (group-more local schedule done g below)
          (nodes-once (executed_in local schedule done) (group_nodes schedule g) (new is)))

  pub groups-once : (done : ℕ → Bool) (groups : List ℕ) → ((g : ℕ) → Contains groups g → g < length schedule.groups) →
      ((d : ℕ → Bool) (g : ℕ) → g < length schedule.groups → d g ≡ false →
      AreNew local (executed_in local schedule d) (group_nodes schedule g)) →
      StoresOnce (executed_in local schedule done) (executed_in local schedule (with_groups done groups))
      (groups_account local m children schedule done groups)
  groups-once done [] inside new = keeps-same (executed_in local schedule done) (executed_in local schedule done) nothing_done refl (λ h. h)
  groups-once done (g ∷ groups) inside new =
      once-then (executed_in local schedule done) (executed_in local schedule (with_group done g))
      (executed_in local schedule (with_groups (with_group done g) groups)) (group_account local m children schedule done g)
      (groups_account local m children schedule (with_group done g) groups)
      (group-once done g (inside g (in-first g groups)) (new done g (inside g (in-first g groups))))
      (groups-once (with_group done g) groups (λ i h. inside i (in-rest g i groups h)) new)

  -- ---- The update and the reset

  abbrev delays : List LocalRow
  delays = filter (λ r. is_delay r.op) local.rows

  update-keeps : (executed : Node → Bool) (e : ℕ × ChildUse) → Keeps (child_update_account local m children executed e)
  update-keeps executed e =
      keeps-either (is_active local m)
      (calls_child call_steps (child_field local e.0) e.0 (instance_at children e.0) (called_in true executed e.1) update)
      (takes_steps call_steps)
      (λ is. refl) (λ is. refl)

  reset-keeps : (e : ℕ × ChildUse) → Keeps (child_reset_account local m children e)
  reset-keeps e =
      keeps-either (is_off local m)
      (calls_child call_steps (child_field local e.0) e.0 (instance_at children e.0) none_called reset) (takes_steps call_steps)
      (λ is. refl) (λ is. refl)

  pub update-once : (executed : Node → Bool) → AreNew local executed schedule.update →
      StoresOnce executed (with_nodes_at local executed schedule.update) (update_account local m children schedule executed)
  update-once executed new =
      let ended = with_nodes_at local executed schedule.update in
      let one = nodes-once executed schedule.update new in
      let two = keeps-each (memory_account local) delays memory-keeps in
      let three = keeps-each (child_update_account local m children ended) (enumerate_from 0 local.children) (λ e h. update-keeps ended e)
      in
      let four = keeps-each (child_reset_account local m children) (enumerate_from 0 local.children) (λ e h. reset-keeps e) in
      let five = trigger-keeps in
      let six = counters-keep in
      omega (arith, one, two, three, four, five, six)

  pub reset-stores : Keeps (reset_account local m children)
  reset-stores =
      let calls : ℕ × ChildUse → Account = λ e. calls_child 1 (child_field local e.0) e.0 (instance_at children e.0) none_called reset in
      let one = keeps-each (memory_reset_account local) delays memory-reset-keeps in
      let two = trigger-reset-keeps in
      let three = keeps-each calls (enumerate_from 0 local.children) (λ e h. refl) in
      omega (arith, one, two, three)
