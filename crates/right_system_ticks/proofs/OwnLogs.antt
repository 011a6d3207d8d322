-- Of the instance itself just the call is logged: what code adds to the log is in the children.
use Rattle.std.specs.Prelude.{◌≡◌, ℕ, ◌+◌, Bool, true, false, if◌then◌else◌, List, [], ◌∷◌, ◌++◌, map, filter, slice_get, Option, Some, None, refl}
use Rattle.std.specs.Option.{option_map_or}
use Rattle.std.specs.List.{enumerate_from}
use Rattle.std.proofs.Common.{ap, ◌∙◌}
use Rattle.std.proofs.lemmas.List.{map-append, append-nil}
use Rattle.std.proofs.lemmas.List.Elements.{filter-append}
use Rattle.diagram_blocks.specs.Meaning.{has_value}
use Rattle.diagram_meaning.specs.Rows.{is_triggered}
use Rattle.diagram_blocks.specs.Kinds.{is_delay}
use Rattle.modules_profile.specs.declared.local.ChildUse.{ChildUse}
use Rattle.modules_profile.specs.declared.local.LocalRow.{LocalRow}
use Rattle.modules_profile.specs.declared.nodes.Node.{Node}
use Rattle.modules_profile.specs.LocalSystem.{LocalSystem}
use Rattle.modules_profile.specs.SystemHeader.{SystemHeader}
use Rattle.modules_profile.specs.Locals.{own_header}
use Rattle.modules_schedule.specs.SystemSchedule.{SystemSchedule}
use Rattle.c_semantics.specs.Machine.{LoggedCall, call_under}
use Rattle.emit_shape.specs.Delays.{is_line}
use Rattle.right_relation.specs.Instances.{Act, out, update, reset, none_called, InstanceTick, instance_at, calls_at, same_path}
use Rattle.right_relation.specs.LocalTicks.{LocalTick, is_active, is_off}
use Rattle.right_relation.specs.NodeCode.{value_steps, memory_steps, ring_steps, trigger_steps, call_steps}
use Rattle.right_relation.specs.NodeStatements.{stored_once, stored_each}
use Rattle.right_relation.specs.Serving.{own_entry}
use Rattle.right_relation.specs.Standing.{called_in}
use Rattle.emit_system_spec.specs.declared.node.Place.{Place}
use Rattle.emit_system_spec.specs.declared.node.Place.TheVariants.{Row, Call}
use Rattle.emit_system_spec.specs.Fields.{value_field, memory_field, ring_field, trigger_field, child_field, counter_field}
use Rattle.emit_system_spec.specs.Groups.{group_nodes}
use Rattle.emit_system_spec.specs.Places.{node_places}
use Rattle.right_system_ticks.specs.ActLaws.{EmittedActsAreLogged, emitted_offer}
use Rattle.right_system_ticks.specs.Holding.{called_groups, with_group, with_node_at, with_nodes_at, executed_in, done_by}
use Rattle.right_system_ticks.specs.CodeAccounts.{Account, takes_steps, nothing_done, stores, calls_child, and_then, all_of}
use Rattle.right_system_ticks.specs.OwnAccounts.{value_account, ring_places, memory_account, trigger_account, memory_reset_account, trigger_reset_account, call_account, place_account, nodes_account, child_update_account, child_reset_account, counter_account, group_account, groups_account, counters_account, update_account, reset_account}
use Rattle.right_system_ticks.specs.OwnInstances.{called_here, own_executed, act_account}

-- ---- Logs without own calls

calls-append : (xs ys : List LoggedCall) → calls_at [] (xs ++ ys) ≡ calls_at [] xs ++ calls_at [] ys
calls-append xs ys =
    ap (map (λ (c : LoggedCall). c.procedure)) (filter-append (λ (c : LoggedCall). same_path [] c.path) xs ys)
    ∙ map-append (λ (c : LoggedCall). c.procedure) (filter (λ (c : LoggedCall). same_path [] c.path) xs)
    (filter (λ (c : LoggedCall). same_path [] c.path) ys)

-- the log of calls inside has no own ones
no-own : (f : ℕ) (log : List LoggedCall) → calls_at [] (map (call_under f) log) ≡ []
no-own f [] = refl
no-own f (c ∷ log) = no-own f log

own-calls : (ns : List ℕ) → calls_at [] (map called_here ns) ≡ ns
own-calls [] = refl
own-calls (n ∷ ns) = ap (λ ms. n ∷ ms) (own-calls ns)

abbrev LogsInside : Account → Type 0
LogsInside a = calls_at [] a.log ≡ []

both-inside : (a b : Account) → LogsInside a → LogsInside b → LogsInside (and_then a b)
both-inside a b one two = calls-append a.log b.log ∙ ap (λ xs. xs ++ calls_at [] b.log) one ∙ two

all-inside : {A : Type 0} (f : A → Account) (xs : List A) → ((x : A) → LogsInside (f x)) → LogsInside (all_of (map f xs))
all-inside f [] each = refl
all-inside f (x ∷ xs) each = both-inside (f x) (all_of (map f xs)) (each x) (all-inside f xs each)

abbrev AreInside : List Account → Type 0
AreInside [] = Unit {0}
AreInside (a ∷ accounts) = LogsInside a × AreInside accounts

each-inside : (accounts : List Account) → AreInside accounts → LogsInside (all_of accounts)
each-inside [] each = refl
each-inside (a ∷ accounts) each = both-inside a (all_of accounts) each.0 (each-inside accounts each.1)

either-inside : (t : Bool) (a b : Account) → LogsInside a → LogsInside b → LogsInside (if t then a else b)
either-inside true a b one two = one
either-inside false a b one two = two

some-inside : {A : Type 0} (f : A → Account) (o : Option A) → ((x : A) → LogsInside (f x)) → LogsInside (option_map_or f o nothing_done)
some-inside f None each = refl
some-inside f (Some x) each = each x

-- ---- Accounts

module _ (local : LocalSystem) where
  value-inside : (r : LocalRow) → LogsInside (value_account local r)
  value-inside r = either-inside (has_value r.kind) (stores (value_steps r.op) (stored_once (value_field local r.row)))
      nothing_done refl refl

  memory-inside : (r : LocalRow) → LogsInside (memory_account local r)
  memory-inside r =
      either-inside (is_line r.op) (stores ring_steps (stored_each (ring_places local r.row)))
      (stores memory_steps (stored_once (memory_field local r.row))) refl refl

  trigger-inside : LogsInside (trigger_account local)
  trigger-inside = either-inside (is_triggered local.control) (stores trigger_steps (stored_once (trigger_field local)))
      nothing_done refl refl

  memory-reset-inside : (r : LocalRow) → LogsInside (memory_reset_account local r)
  memory-reset-inside r =
      either-inside (is_line r.op) (stores 2 (stored_each ((ring_field local r.row + 1) ∷ (ring_field local r.row + 2) ∷ [])))
      (stores 1 (stored_once (memory_field local r.row))) refl refl

  trigger-reset-inside : LogsInside (trigger_reset_account local)
  trigger-reset-inside = either-inside (is_triggered local.control) (stores 1 (stored_once (trigger_field local))) nothing_done refl refl

  module _ (m : LocalTick) (children : List InstanceTick) where
    call-inside : (executed : Node → Bool) (k : ℕ) (u : ChildUse) (j : ℕ) → LogsInside (call_account local m children executed k u j)
    call-inside executed k u j =
        either-inside (is_active local m)
        (calls_child call_steps (child_field local k) k (instance_at children k) (called_in true executed u) (out j))
        (takes_steps call_steps)
        (no-own (child_field local k) ((instance_at children k).log (called_in true executed u) (out j))) refl

    place-inside : (executed : Node → Bool) (p : Place) → LogsInside (place_account local m children executed p)
    place-inside executed (Row p) = some-inside (value_account local) (slice_get local.rows p) value-inside
    place-inside executed (Call k j) =
        some-inside (λ u. call_account local m children executed k u j) (slice_get local.children k) (λ u. call-inside executed k u j)

    nodes-inside : (executed : Node → Bool) (nodes : List ℕ) → LogsInside (nodes_account local m children executed nodes)
    nodes-inside executed [] = refl
    nodes-inside executed (n ∷ nodes) =
        both-inside (option_map_or (place_account local m children executed) (slice_get (node_places local) n) nothing_done)
        (nodes_account local m children (with_node_at local executed n) nodes)
        (some-inside (place_account local m children executed) (slice_get (node_places local) n) (place-inside executed))
        (nodes-inside (with_node_at local executed n) nodes)

    child-update-inside : (executed : Node → Bool) (e : ℕ × ChildUse) → LogsInside (child_update_account local m children executed e)
    child-update-inside executed e =
        either-inside (is_active local m)
        (calls_child call_steps (child_field local e.0) e.0 (instance_at children e.0) (called_in true executed e.1) update)
        (takes_steps call_steps)
        (no-own (child_field local e.0) ((instance_at children e.0).log (called_in true executed e.1) update)) refl

    child-reset-inside : (e : ℕ × ChildUse) → LogsInside (child_reset_account local m children e)
    child-reset-inside e =
        either-inside (is_off local m)
        (calls_child call_steps (child_field local e.0) e.0 (instance_at children e.0) none_called reset) (takes_steps call_steps)
        (no-own (child_field local e.0) ((instance_at children e.0).log none_called reset)) refl

    module _ (schedule : SystemSchedule) where
      group-inside : (done : ℕ → Bool) (g : ℕ) → LogsInside (group_account local m children schedule done g)
      group-inside done g =
          both-inside (takes_steps 2)
          (if done g then nothing_done
          else and_then (counter_account local m children schedule g)
          (nodes_account local m children (executed_in local schedule done) (group_nodes schedule g)))
          refl
          (either-inside (done g) nothing_done
          (and_then (counter_account local m children schedule g)
          (nodes_account local m children (executed_in local schedule done) (group_nodes schedule g)))
          refl
          (both-inside (counter_account local m children schedule g)
          (nodes_account local m children (executed_in local schedule done) (group_nodes schedule g))
          (some-inside (λ f. stores 1 (stored_once f)) (counter_field local schedule g) (λ f. refl))
          (nodes-inside (executed_in local schedule done) (group_nodes schedule g))))

      groups-inside : (done : ℕ → Bool) (groups : List ℕ) → LogsInside (groups_account local m children schedule done groups)
      groups-inside done [] = refl
      groups-inside done (g ∷ groups) =
          both-inside (group_account local m children schedule done g) (groups_account local m children schedule (with_group done g) groups)
          (group-inside done g) (groups-inside (with_group done g) groups)

      abbrev delays : List LocalRow
      delays = filter (λ r. is_delay r.op) local.rows

      update-inside : (executed : Node → Bool) → LogsInside (update_account local m children schedule executed)
      update-inside executed =
          let ended = with_nodes_at local executed schedule.update in
          each-inside
          (nodes_account local m children executed schedule.update
          ∷ all_of (map (memory_account local) delays)
          ∷ all_of (map (child_update_account local m children ended) (enumerate_from 0 local.children))
          ∷ all_of (map (child_reset_account local m children) (enumerate_from 0 local.children))
          ∷ trigger_account local
          ∷ counters_account local m children schedule ∷ []) (
            nodes-inside executed schedule.update,
            (
              all-inside (memory_account local) delays memory-inside,
              (
                all-inside (child_update_account local m children ended) (enumerate_from 0 local.children) (child-update-inside ended),
                (
                  all-inside (child_reset_account local m children) (enumerate_from 0 local.children) child-reset-inside,
                  (trigger-inside, (refl, tt)),
                ),
              ),
            ),
          )

    reset-inside : LogsInside (reset_account local m children)
    reset-inside =
        let delays = filter (λ (r : LocalRow). is_delay r.op) local.rows in
        let calls : ℕ × ChildUse → Account = λ e. calls_child 1 (child_field local e.0) e.0 (instance_at children e.0) none_called reset in
        each-inside
        (all_of (map (memory_reset_account local) delays)
        ∷ trigger_reset_account local
        ∷ all_of (map calls (enumerate_from 0 local.children)) ∷ []) (
          all-inside (memory_reset_account local) delays memory-reset-inside,
          (
            trigger-reset-inside,
            (
              all-inside calls (enumerate_from 0 local.children)
                  (λ e. no-own (child_field local e.0) ((instance_at children e.0).log none_called reset)),
              tt,
            ),
          ),
        )

    acts-inside : (h : SystemHeader) (schedule : SystemSchedule) (called : ℕ → Bool) (act : Act) →
        LogsInside (act_account local h schedule m children called act)
    acts-inside h schedule called (out j) = groups-inside schedule (done_by schedule called) (called_groups schedule j)
    acts-inside h schedule called update = update-inside schedule (own_executed local h schedule m children called)
    acts-inside h schedule called reset = reset-inside

pub emitted_acts_are_logged : EmittedActsAreLogged
emitted_acts_are_logged local profile schedule offers m children pures numbers called act =
    let entry = own_entry (emitted_offer local profile schedule offers pures numbers) act in
    let log = (act_account local (own_header local profile) schedule m children called act).log in
    calls-append (map called_here entry) log
    ∙ ap (λ ns. calls_at [] (map called_here entry) ++ ns) (acts-inside local m children (own_header local profile) schedule called act)
    ∙ append-nil (calls_at [] (map called_here entry))
    ∙ own-calls entry
