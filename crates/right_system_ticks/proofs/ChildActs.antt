-- Which acts on each child an act of the system makes.
use Rattle.std.specs.Prelude.{◌≡◌, ◌⊎◌, ℕ, ◌+◌, ◌<◌, ◌≤◌, Bool, true, false, ◌&&◌, ◌||◌, ◌==◌, if◌then◌else◌, List, [], ◌∷◌, ◌++◌, map, filter, length, slice_get, Contains, Option, Some, None, refl}
use Rattle.std.specs.Option.{option_map_or}
use Rattle.std.specs.List.{enumerate_from}
use Rattle.std.proofs.Common.{sym, ap, subst, ◌∙◌, arith, inl, inr}
use Rattle.std.proofs.lemmas.Bool.{cases_eq, eq-eqb, ne_eqb}
use Rattle.std.proofs.lemmas.List.{map-append, append-nil}
use Rattle.std.proofs.lemmas.Option.{same_Some}
use Rattle.diagram_blocks.specs.Meaning.{has_value}
use Rattle.diagram_meaning.specs.Rows.{is_triggered}
use Rattle.diagram_blocks.specs.Kinds.{is_delay}
use Rattle.modules_profile.specs.declared.local.ChildUse.{ChildUse}
use Rattle.modules_profile.specs.declared.local.LocalRow.{LocalRow}
use Rattle.modules_profile.specs.declared.nodes.Node.{Node}
use Rattle.modules_profile.specs.declared.nodes.Node.TheVariants as node
use Rattle.modules_profile.specs.LocalSystem.{LocalSystem}
use Rattle.modules_profile.specs.LawfulLocals.{IsLocal}
use Rattle.modules_profile.proofs.lemmas.Members.{in-first, in-rest, at-below}
use Rattle.modules_schedule.specs.SystemSchedule.{SystemSchedule}
use Rattle.emit_shape.specs.Delays.{is_line}
use Rattle.right_relation.specs.Instances.{Act, out, update, reset, none_called, InstanceTick, instance_at}
use Rattle.right_relation.specs.LocalTicks.{LocalTick, is_active, is_off}
use Rattle.right_relation.specs.NodeCode.{value_steps, memory_steps, ring_steps, trigger_steps, call_steps}
use Rattle.right_relation.specs.NodeStatements.{stored_once, stored_each}
use Rattle.right_relation.specs.Standing.{with_node, called_in}
use Rattle.emit_system_spec.specs.declared.node.Place.{Place}
use Rattle.emit_system_spec.specs.declared.node.Place.TheVariants.{Row, Call}
use Rattle.emit_system_spec.specs.Fields.{value_field, memory_field, ring_field, trigger_field, child_field, counter_field}
use Rattle.emit_system_spec.specs.Groups.{group_nodes}
use Rattle.emit_system_spec.specs.Places.{node_places}
use Rattle.right_system_ticks.specs.CodeAccounts.{Account, takes_steps, nothing_done, stores, calls_child, and_then, all_of}
use Rattle.right_system_ticks.specs.Holding.{with_group, with_node_at, with_nodes_at, executed_in}
use Rattle.right_system_ticks.specs.OwnAccounts.{value_account, ring_places, memory_account, trigger_account, memory_reset_account, trigger_reset_account, call_account, place_account, nodes_account, child_update_account, child_reset_account, counter_account, group_account, groups_account, update_account, reset_account}
use Rattle.right_system_ticks.proofs.Tests.{if-not, if-yes}
use Rattle.right_system_ticks.proofs.DoneGroups.{group-more, count-again}
use Rattle.right_system_ticks.proofs.FunctionRuns.{with_groups}
use Rattle.right_system_ticks.proofs.NodePlaces.{IsPlaceOf, place-at}
use Rattle.right_system_ticks.proofs.NodesOnce.{children-apart}
use Rattle.right_system_ticks.proofs.NextNodes.{At, AreNew}
use Rattle.right_system_ticks.proofs.OftenLists.{bit, times, times-cons, times-append}

-- ---- Accounts that do nothing to a child

-- nothing is done to the child at this place
abbrev pub Quiet : ℕ → Account → Type 0
Quiet k a = a.acts k ≡ []

quiet-then : (k : ℕ) (a b : Account) → Quiet k a → Quiet k b → Quiet k (and_then a b)
quiet-then k a b one two = ap (λ acts. acts ++ b.acts k) one ∙ two

quiet-either : (k : ℕ) (t : Bool) (a b : Account) → Quiet k a → Quiet k b → Quiet k (if t then a else b)
quiet-either k true a b one two = one
quiet-either k false a b one two = two

quiet-some : {A : Type 0} (k : ℕ) (f : A → Account) (o : Option A) → ((x : A) → Quiet k (f x)) → Quiet k (option_map_or f o nothing_done)
quiet-some k f None each = refl
quiet-some k f (Some x) each = each x

quiet-each : {A : Type 0} (k : ℕ) (f : A → Account) (xs : List A) → ((x : A) → Quiet k (f x)) → Quiet k (all_of (map f xs))
quiet-each k f [] each = refl
quiet-each k f (x ∷ xs) each = quiet-then k (f x) (all_of (map f xs)) (each x) (quiet-each k f xs each)

-- an act on each child is one on this
module _ {A : Type 0} (f : ℕ × A → Account) (act : Act) (acts : (e : ℕ × A) (k : ℕ) → (f e).acts k ≡ (if k == e.0 then act ∷ [] else []))
  where
    none-below : (i : ℕ) (xs : List A) (k : ℕ) → k < i → Quiet k (all_of (map f (enumerate_from i xs)))
    none-below i [] k low = refl
    none-below i (x ∷ xs) k low =
        quiet-then k (f (i, x)) (all_of (map f (enumerate_from (i + 1) xs)))
        (acts (i, x) k ∙ if-not (k == i) (act ∷ []) [] (ne_eqb k i (λ same. let e : k ≡ i = same in omega (arith, e, low))))
        (none-below (i + 1) xs k (omega (arith, low)))

    one-each : (i : ℕ) (xs : List A) (k : ℕ) → i ≤ k → k < i + length xs → (all_of (map f (enumerate_from i xs))).acts k ≡ act ∷ []
    one-each i [] k low high = absurd (omega (arith, low, high))
    one-each i (x ∷ xs) k low high = by (cases_eq k i) (λ apart. one-each (i + 1) xs k (omega (arith, low, apart)) (omega (arith, high)))
      where
        rest : Account
        rest = all_of (map f (enumerate_from (i + 1) xs))

        by : (k ≡ i) ⊎ (k ≡ i → ⊥) → ((k ≡ i → ⊥) → rest.acts k ≡ act ∷ []) → ((f (i, x)).acts k ++ rest.acts k) ≡ act ∷ []
        by (inl same) later =
            ap (λ xs. xs ++ rest.acts k) (acts (i, x) k ∙ if-yes (k == i) (act ∷ []) [] (eq-eqb k i same))
            ∙ ap (λ ys. act ∷ ys) (none-below (i + 1) xs k (omega (arith, same)))
        by (inr apart) later =
            ap (λ xs. xs ++ rest.acts k) (acts (i, x) k ∙ if-not (k == i) (act ∷ []) [] (ne_eqb k i apart)) ∙ later apart

-- ---- Calls of a child's functions

-- the calls of the child of this row at this place are those of nodes that weren't executed before and are afterwards
pub record Calls (k e : ℕ) (before behind : Node → Bool) (a : Account) : Type 0 where
  pub functions : List ℕ
  pub acts : a.acts k ≡ map out functions
  pub counts : (j : ℕ) → bit (before (node.Call e j)) + times j functions ≡ bit (behind (node.Call e j))

calls-none : (k e : ℕ) (before behind : Node → Bool) (a : Account) → Quiet k a →
    ((j : ℕ) → before (node.Call e j) ≡ behind (node.Call e j)) →
    Calls k e before behind a
calls-none k e before behind a quiet same = record {
  functions = [];
  acts = quiet;
  counts = λ j. (let none : bit (before (node.Call e j)) + 0 ≡ bit (before (node.Call e j)) = omega arith in none) ∙ ap bit (same j);
}

calls-then : (k e : ℕ) (before middle behind : Node → Bool) (a b : Account) → Calls k e before middle a → Calls k e middle behind b →
    Calls k e before behind (and_then a b)
calls-then k e before middle behind a b one two = record {
  functions = one.functions ++ two.functions;
  acts = ap (λ acts. acts ++ b.acts k) one.acts ∙ ap (λ acts. map out one.functions ++ acts) two.acts
      ∙ sym (map-append out one.functions two.functions);
  counts = λ j.
      let first = one.counts j in
      let second = two.counts j in
      let sum = times-append j one.functions two.functions in
      omega (arith, first, second, sum);
}

module _ (local : LocalSystem) (schedule : SystemSchedule) (m : LocalTick) (children : List InstanceTick) (lawful : IsLocal local) where
  value-quiet : (k : ℕ) (r : LocalRow) → Quiet k (value_account local r)
  value-quiet k r = quiet-either k (has_value r.kind) (stores (value_steps r.op) (stored_once (value_field local r.row)))
      nothing_done refl refl

  memory-quiet : (k : ℕ) (r : LocalRow) → Quiet k (memory_account local r)
  memory-quiet k r =
      quiet-either k (is_line r.op) (stores ring_steps (stored_each (ring_places local r.row)))
      (stores memory_steps (stored_once (memory_field local r.row))) refl refl

  trigger-quiet : (k : ℕ) → Quiet k (trigger_account local)
  trigger-quiet k = quiet-either k (is_triggered local.control) (stores trigger_steps (stored_once (trigger_field local)))
      nothing_done refl refl

  memory-reset-quiet : (k : ℕ) (r : LocalRow) → Quiet k (memory_reset_account local r)
  memory-reset-quiet k r =
      quiet-either k (is_line r.op) (stores 2 (stored_each ((ring_field local r.row + 1) ∷ (ring_field local r.row + 2) ∷ [])))
      (stores 1 (stored_once (memory_field local r.row))) refl refl

  trigger-reset-quiet : (k : ℕ) → Quiet k (trigger_reset_account local)
  trigger-reset-quiet k = quiet-either k (is_triggered local.control) (stores 1 (stored_once (trigger_field local))) nothing_done refl refl

  counter-quiet : (k g : ℕ) → Quiet k (counter_account local m children schedule g)
  counter-quiet k g = quiet-some k (λ f. stores 1 (stored_once f)) (counter_field local schedule g) (λ f. refl)

  -- ---- Where the system isn't active

  module _ (inactive : is_active local m ≡ false) where
    place-quiet : (k : ℕ) (executed : Node → Bool) (p : Place) → Quiet k (place_account local m children executed p)
    place-quiet k executed (Row p) = quiet-some k (value_account local) (slice_get local.rows p) (value-quiet k)
    place-quiet k executed (Call i j) = quiet-some k (λ u. call_account local m children executed i u j) (slice_get local.children i) (λ u.
        ap (λ t. (if t then calls_child call_steps (child_field local i) i (instance_at children i) (called_in true executed u) (out j)
        else takes_steps call_steps).acts k) inactive)

    pub nodes-quiet : (k : ℕ) (executed : Node → Bool) (nodes : List ℕ) → Quiet k (nodes_account local m children executed nodes)
    nodes-quiet k executed [] = refl
    nodes-quiet k executed (n ∷ nodes) =
        quiet-then k (option_map_or (place_account local m children executed) (slice_get (node_places local) n) nothing_done)
        (nodes_account local m children (with_node_at local executed n) nodes)
        (quiet-some k (place_account local m children executed) (slice_get (node_places local) n) (place-quiet k executed))
        (nodes-quiet k (with_node_at local executed n) nodes)

    pub groups-quiet : (k : ℕ) (done : ℕ → Bool) (groups : List ℕ) → Quiet k (groups_account local m children schedule done groups)
    groups-quiet k done [] = refl
    groups-quiet k done (g ∷ groups) =
        let nodes = nodes_account local m children (executed_in local schedule done) (group_nodes schedule g) in
        let more = and_then (counter_account local m children schedule g) nodes in
        quiet-then k (group_account local m children schedule done g) (groups_account local m children schedule (with_group done g) groups)
        (quiet-then k (takes_steps 2) (if done g then nothing_done else more) refl
        (quiet-either k (done g) nothing_done more refl
        (quiet-then k (counter_account local m children schedule g) nodes (counter-quiet k g)
        (nodes-quiet k (executed_in local schedule done) (group_nodes schedule g)))))
        (groups-quiet k (with_group done g) groups)

  -- ---- Where it is

  module _ (active : is_active local m ≡ true) (k e : ℕ) (u : ChildUse) (at : slice_get local.children k ≡ Some u)
      (row : u.header.row ≡ Some e) where
    abbrev Makes : (Node → Bool) → (Node → Bool) → Account → Type 0
    Makes before behind a = Calls k e before behind a

    -- a call of this child
    call-counts : (executed : Node → Bool) (j : ℕ) → executed (node.Call e j) ≡ false → (i : ℕ) →
        bit (executed (node.Call e i)) + times i (j ∷ []) ≡ bit (with_node executed (node.Call e j) (node.Call e i))
    call-counts executed j new i = by (cases_eq i j)
      where
        here : (i == j) ≡ true → with_node executed (node.Call e j) (node.Call e i) ≡ true
        here same = ap (λ t. (t && (i == j)) || executed (node.Call e i)) (eq-eqb e e refl) ∙ ap (λ t. t || executed (node.Call e i)) same

        there : (i == j) ≡ false → with_node executed (node.Call e j) (node.Call e i) ≡ executed (node.Call e i)
        there apart = ap (λ t. (t && (i == j)) || executed (node.Call e i)) (eq-eqb e e refl)
            ∙ ap (λ t. t || executed (node.Call e i)) apart

        by : (i ≡ j) ⊎ (i ≡ j → ⊥) → bit (executed (node.Call e i)) + times i (j ∷ [])
            ≡ bit (with_node executed (node.Call e j) (node.Call e i))
        by (inl same) =
            let none = ap bit (ap (λ n. executed (node.Call e n)) same ∙ new) in
            let one = ap bit (here (eq-eqb i j same)) in
            let step = times-cons i j [] in
            let is = ap bit (eq-eqb j i (sym same)) in
            omega (arith, none, one, step, is)
        by (inr apart) =
            let same = ap bit (there (ne_eqb i j apart)) in
            let step = times-cons i j [] in
            let is = ap bit (ne_eqb j i (λ e. apart (sym e))) in
            omega (arith, same, step, is)

    call-makes : (executed : Node → Bool) (i j d : ℕ) (v : ChildUse) → slice_get local.children i ≡ Some v → v.header.row ≡ Some d →
        executed (node.Call d j) ≡ false → Makes executed (with_node executed (node.Call d j))
        (call_account local m children executed i v j)
    call-makes executed i j d v at_i row_i new = by (cases_eq k i)
      where
        acts : (call_account local m children executed i v j).acts k ≡ (if k == i then out j ∷ [] else [])
        acts = ap (λ t. (if t then calls_child call_steps (child_field local i) i (instance_at children i) (called_in true executed v)
            (out j)
            else takes_steps call_steps).acts k) active

        by : (k ≡ i) ⊎ (k ≡ i → ⊥) → Makes executed (with_node executed (node.Call d j)) (call_account local m children executed i v j)
        by (inl same) =
            let one : u ≡ v = same_Some u v (sym at ∙ ap (slice_get local.children) same ∙ at_i) in
            let number : e ≡ d = same_Some e d (sym row ∙ ap (λ (u : ChildUse). u.header.row) one ∙ row_i) in
            record {
              functions = j ∷ [];
              acts = acts ∙ if-yes (k == i) (out j ∷ []) [] (eq-eqb k i same);
              counts = λ n. call-counts executed j (ap (λ d. executed (node.Call d j)) number ∙ new) n
                  ∙ ap (λ d. bit (with_node executed (node.Call d j) (node.Call e n))) number;
            }
        by (inr apart) =
            calls-none k e executed (with_node executed (node.Call d j)) (call_account local m children executed i v j)
            (acts ∙ if-not (k == i) (out j ∷ []) [] (ne_eqb k i apart))
            (λ n. ap (λ t. (t && (n == j)) || executed (node.Call e n)) (sym (ne_eqb e d (λ same.
            apart (children-apart local lawful k i d u v at at_i (row ∙ ap Some same) row_i)))))

    node-makes : (executed : Node → Bool) (n : ℕ) (y : Node) → At local n y → executed y ≡ false →
        Makes executed (with_node_at local executed n)
        (option_map_or (place_account local m children executed) (slice_get (node_places local) n) nothing_done)
    node-makes executed n y at_n new =
        let p = place-at local n y at_n in
        subst (λ o. Makes executed (with_node_at local executed n)
        (option_map_or (place_account local m children executed) o nothing_done)) (sym p.1)
        (subst (λ o. Makes executed (option_map_or (with_node executed) o executed) (place_account local m children executed p.0))
        (sym at_n)
        (by p.0 y p.2 new))
      where
        by : (p : Place) (y : Node) → IsPlaceOf local p y → executed y ≡ false →
            Makes executed (with_node executed y) (place_account local m children executed p)
        by (Row i) y (r, at_r, is) new =
            calls-none k e executed (with_node executed y) (place_account local m children executed (Row i))
            (quiet-some k (value_account local) (slice_get local.rows i) (value-quiet k))
            (λ j. ap (λ z. with_node executed z (node.Call e j)) (sym is))
        by (Call i j) y (v, d, at_v, row_v, some, most, is) new =
            subst (λ o. Makes executed (with_node executed y) (option_map_or (λ u. call_account local m children executed i u j)
            o nothing_done)) (sym at_v)
            (subst (λ z. Makes executed (with_node executed z) (call_account local m children executed i v j)) (sym is)
            (call-makes executed i j d v at_v row_v (ap executed (sym is) ∙ new)))

    pub nodes-make : (executed : Node → Bool) (nodes : List ℕ) → AreNew local executed nodes →
        Makes executed (with_nodes_at local executed nodes) (nodes_account local m children executed nodes)
    nodes-make executed [] new = calls-none k e executed executed nothing_done refl (λ j. refl)
    nodes-make executed (n ∷ nodes) new =
        calls-then k e executed (with_node_at local executed n) (with_nodes_at local (with_node_at local executed n) nodes)
        (option_map_or (place_account local m children executed) (slice_get (node_places local) n) nothing_done)
        (nodes_account local m children (with_node_at local executed n) nodes)
        (node-makes executed n new.0.node new.0.at new.0.is_new) (nodes-make (with_node_at local executed n) nodes new.1)

    group-makes : (done : ℕ → Bool) (g : ℕ) → g < length schedule.groups →
        (done g ≡ false → AreNew local (executed_in local schedule done) (group_nodes schedule g)) →
        Makes (executed_in local schedule done) (executed_in local schedule (with_group done g))
        (group_account local m children schedule done g)
    group-makes done g below new =
        calls-then k e (executed_in local schedule done) (executed_in local schedule done) (executed_in local schedule (with_group done g))
        (takes_steps 2)
        (if done g then nothing_done else more)
        (calls-none k e (executed_in local schedule done) (executed_in local schedule done) (takes_steps 2) refl (λ j. refl))
        (by (done g) refl)
      where
        nodes : Account
        nodes = nodes_account local m children (executed_in local schedule done) (group_nodes schedule g)

        more : Account
        more = and_then (counter_account local m children schedule g) nodes

        by : (t : Bool) → done g ≡ t →
            Makes (executed_in local schedule done) (executed_in local schedule (with_group done g)) (if t then nothing_done else more)
        by true is =
            subst (λ d. Makes (executed_in local schedule done) (executed_in local schedule d) nothing_done)
            (sym (count-again schedule done g is))
            (calls-none k e (executed_in local schedule done) (executed_in local schedule done) nothing_done refl (λ j. refl))
        by false is =
            calls-then k e (executed_in local schedule done) (executed_in local schedule done)
            (executed_in local schedule (with_group done g))
            (counter_account local m children schedule g) nodes
            (calls-none k e (executed_in local schedule done) (executed_in local schedule done)
            (counter_account local m children schedule g)
            (counter-quiet k g) (λ j. refl))
            (subst (λ executed. Makes (executed_in local schedule done) executed nodes) (group-more local schedule done g below)
            (nodes-make (executed_in local schedule done) (group_nodes schedule g) (new is)))

    pub groups-make : (done : ℕ → Bool) (groups : List ℕ) → ((g : ℕ) → Contains groups g → g < length schedule.groups) →
        ((d : ℕ → Bool) (g : ℕ) → g < length schedule.groups → d g ≡ false →
        AreNew local (executed_in local schedule d) (group_nodes schedule g)) →
        Makes (executed_in local schedule done) (executed_in local schedule (with_groups done groups))
        (groups_account local m children schedule done groups)
    groups-make done [] inside new =
        calls-none k e (executed_in local schedule done) (executed_in local schedule done) nothing_done refl (λ j. refl)
    groups-make done (g ∷ groups) inside new =
        calls-then k e (executed_in local schedule done) (executed_in local schedule (with_group done g))
        (executed_in local schedule (with_groups (with_group done g) groups)) (group_account local m children schedule done g)
        (groups_account local m children schedule (with_group done g) groups)
        (group-makes done g (inside g (in-first g groups)) (new done g (inside g (in-first g groups))))
        (groups-make (with_group done g) groups (λ i h. inside i (in-rest g i groups h)) new)

  -- ---- The update and the reset

  abbrev delays : List LocalRow
  delays = filter (λ r. is_delay r.op) local.rows

  module _ (k : ℕ) (u : ChildUse) (at : slice_get local.children k ≡ Some u) where
    below : k < 0 + length local.children
    below = let low = at-below local.children k u at in omega (arith, low)

    updates-one : (executed : Node → Bool) →
        (all_of (map (child_update_account local m children executed) (enumerate_from 0 local.children))).acts k
        ≡ (if is_active local m then update ∷ [] else [])
    updates-one executed = by (is_active local m)
      where
        by : (t : Bool) →
            (all_of (map (λ (e : ℕ × ChildUse). if t
            then calls_child call_steps (child_field local e.0) e.0 (instance_at children e.0) (called_in true executed e.1) update
            else takes_steps call_steps) (enumerate_from 0 local.children))).acts k ≡ (if t then update ∷ [] else [])
        by true = one-each
            (λ (e : ℕ × ChildUse). calls_child call_steps (child_field local e.0) e.0 (instance_at children e.0)
            (called_in true executed e.1) update)
            update (λ e k. refl) 0 local.children k (omega arith) below
        by false = quiet-each k (λ (e : ℕ × ChildUse). takes_steps call_steps) (enumerate_from 0 local.children) (λ e. refl)

    resets-one : (all_of (map (child_reset_account local m children) (enumerate_from 0 local.children))).acts k
        ≡ (if is_off local m then reset ∷ [] else [])
    resets-one = by (is_off local m)
      where
        by : (t : Bool) →
            (all_of (map (λ (e : ℕ × ChildUse). if t
            then calls_child call_steps (child_field local e.0) e.0 (instance_at children e.0) none_called reset
            else takes_steps call_steps) (enumerate_from 0 local.children))).acts k ≡ (if t then reset ∷ [] else [])
        by true = one-each (λ (e : ℕ × ChildUse). calls_child call_steps (child_field local e.0) e.0 (instance_at children e.0)
            none_called reset)
            reset (λ e k. refl) 0 local.children k (omega arith) below
        by false = quiet-each k (λ (e : ℕ × ChildUse). takes_steps call_steps) (enumerate_from 0 local.children) (λ e. refl)

    -- the acts of the update: those of its nodes, and then the child's update and its reset
    pub update-acts : (executed : Node → Bool) → (update_account local m children schedule executed).acts k
        ≡ (nodes_account local m children executed schedule.update).acts k
        ++ ((if is_active local m then update ∷ [] else []) ++ (if is_off local m then reset ∷ [] else []))
    update-acts executed =
        let ended = with_nodes_at local executed schedule.update in
        let nodes = (nodes_account local m children executed schedule.update).acts k in
        let updates = (all_of (map (child_update_account local m children ended) (enumerate_from 0 local.children))).acts k in
        let resets = (all_of (map (child_reset_account local m children) (enumerate_from 0 local.children))).acts k in
        ap (λ acts. nodes ++ (acts ++ (updates ++ (resets ++ ((trigger_account local).acts k ++ [])))))
        (quiet-each k (memory_account local) delays (memory-quiet k))
        ∙ ap (λ acts. nodes ++ (updates ++ (resets ++ (acts ++ [])))) (trigger-quiet k)
        ∙ ap (λ acts. nodes ++ (updates ++ acts)) (append-nil resets)
        ∙ ap (λ acts. nodes ++ (acts ++ resets)) (updates-one ended)
        ∙ ap (λ acts. nodes ++ ((if is_active local m then update ∷ [] else []) ++ acts)) resets-one

    pub reset-acts : (reset_account local m children).acts k ≡ reset ∷ []
    reset-acts =
        let calls : ℕ × ChildUse → Account = λ e. calls_child 1 (child_field local e.0) e.0 (instance_at children e.0) none_called reset in
        let resets = (all_of (map calls (enumerate_from 0 local.children))).acts k in
        ap (λ acts. acts ++ ((trigger_reset_account local).acts k ++ (resets ++ [])))
        (quiet-each k (memory_reset_account local) delays (memory-reset-quiet k))
        ∙ ap (λ acts. acts ++ (resets ++ [])) (trigger-reset-quiet k)
        ∙ append-nil resets
        ∙ one-each calls reset (λ e k. refl) 0 local.children k (omega arith) below
