-- The accounts of a system's code in a tick: of nodes, of groups, of a function, of the update and
-- of the reset.
use Rattle.std.specs.Prelude.{ℕ, ◌+◌, Bool, true, if◌then◌else◌, List, [], ◌∷◌, map, filter, length, slice_get}
use Rattle.std.specs.Option.{option_map_or}
use Rattle.std.specs.List.{enumerate_from, range_with_len}
use Rattle.diagram_blocks.specs.Meaning.{has_value}
use Rattle.diagram_meaning.specs.Rows.{is_triggered}
use Rattle.diagram_blocks.specs.Kinds.{is_delay}
use Rattle.modules_profile.specs.declared.local.ChildUse.{ChildUse}
use Rattle.modules_profile.specs.declared.local.LocalRow.{LocalRow}
use Rattle.modules_profile.specs.declared.nodes.Node.{Node}
use Rattle.modules_profile.specs.LocalSystem.{LocalSystem}
use Rattle.modules_schedule.specs.SystemSchedule.{SystemSchedule}
use Rattle.emit_shape.specs.Delays.{is_line}
use Rattle.right_relation.specs.Instances.{out, update, reset, none_called, InstanceTick, instance_at}
use Rattle.right_relation.specs.LocalTicks.{LocalTick, is_active, is_off}
use Rattle.right_relation.specs.NodeCode.{value_steps, memory_steps, ring_steps, trigger_steps, call_steps}
use Rattle.right_relation.specs.NodeStatements.{stored_once, stored_each}
use Rattle.right_relation.specs.Standing.{called_in}
use Rattle.emit_system_spec.specs.declared.node.Place.{Place}
use Rattle.emit_system_spec.specs.declared.node.Place.TheVariants.{Row, Call}
use Rattle.emit_system_spec.specs.Fields.{value_field, memory_field, ring_field, trigger_field, child_field, counter_field, shared_groups}
use Rattle.emit_system_spec.specs.Groups.{group_nodes}
use Rattle.emit_system_spec.specs.Places.{node_places}
use Rattle.right_system_ticks.specs.Holding.{called_groups, with_group, with_node_at, with_nodes_at, executed_in}
use Rattle.right_system_ticks.specs.CodeAccounts.{Account, takes_steps, nothing_done, stores, calls_child, and_then, all_of}

-- ---- Rows

module _ (local : LocalSystem) where
  abbrev pub value_account : LocalRow → Account
  value_account r =
      if has_value r.kind then stores (value_steps r.op) (stored_once (value_field local r.row))
      else nothing_done

  -- the three fields of a ring
  abbrev pub ring_places : ℕ → List ℕ
  ring_places b = let f = ring_field local b in f ∷ (f + 1) ∷ (f + 2) ∷ []

  abbrev pub memory_account : LocalRow → Account
  memory_account r =
      if is_line r.op then stores ring_steps (stored_each (ring_places r.row))
      else stores memory_steps (stored_once (memory_field local r.row))

  abbrev pub trigger_account : Account
  trigger_account =
      if is_triggered local.control then stores trigger_steps (stored_once (trigger_field local))
      else nothing_done

  -- in a reset a memory is stored by itself, without a test, and of a ring its place and its count
  -- are
  abbrev pub memory_reset_account : LocalRow → Account
  memory_reset_account r =
      if is_line r.op
      then stores 2 (stored_each ((ring_field local r.row + 1) ∷ (ring_field local r.row + 2) ∷ []))
      else stores 1 (stored_once (memory_field local r.row))

  abbrev pub trigger_reset_account : Account
  trigger_reset_account =
      if is_triggered local.control then stores 1 (stored_once (trigger_field local))
      else nothing_done

-- ---- Nodes, children and groups, in a tick with these children

module _ (local : LocalSystem) (m : LocalTick) (children : List InstanceTick) where
  -- where the system is active the child's function is called
  abbrev pub call_account : (Node → Bool) → (k : ℕ) → ChildUse → (function : ℕ) → Account
  call_account executed k u j =
      if is_active local m
      then calls_child call_steps (child_field local k) k (instance_at children k)
      (called_in true executed u) (out j)
      else takes_steps call_steps

  abbrev pub place_account : (Node → Bool) → Place → Account
  place_account executed (Row p) =
      option_map_or (value_account local) (slice_get local.rows p) nothing_done
  place_account executed (Call k j) =
      option_map_or (λ u. call_account executed k u j) (slice_get local.children k) nothing_done

  -- the nodes at these places, one after another
  abbrev pub nodes_account : (Node → Bool) → List ℕ → Account
  nodes_account executed [] = nothing_done
  nodes_account executed (n ∷ nodes) =
      and_then
      (option_map_or (place_account executed) (slice_get (node_places local) n) nothing_done)
      (nodes_account (with_node_at local executed n) nodes)

  -- a child is updated where the system is active, and reset where it is off
  abbrev pub child_update_account : (Node → Bool) → ℕ × ChildUse → Account
  child_update_account executed e =
      if is_active local m
      then calls_child call_steps (child_field local e.0) e.0 (instance_at children e.0)
      (called_in true executed e.1) update
      else takes_steps call_steps

  abbrev pub child_reset_account : ℕ × ChildUse → Account
  child_reset_account e =
      if is_off local m
      then calls_child call_steps (child_field local e.0) e.0 (instance_at children e.0)
      none_called reset
      else takes_steps call_steps

  module _ (schedule : SystemSchedule) where
    -- the counter of a group that has one is set
    abbrev pub counter_account : ℕ → Account
    counter_account g =
        option_map_or (λ f. stores 1 (stored_once f)) (counter_field local schedule g) nothing_done

    -- The call of a group: a step for the call, and one for the test of a counter. A group that was
    -- executed does no more.
    abbrev pub group_account : (ℕ → Bool) → ℕ → Account
    group_account done g =
        and_then (takes_steps 2)
        (if done g then nothing_done
        else and_then (counter_account g)
        (nodes_account (executed_in local schedule done) (group_nodes schedule g)))

    abbrev pub groups_account : (ℕ → Bool) → List ℕ → Account
    groups_account done [] = nothing_done
    groups_account done (g ∷ groups) =
        and_then (group_account done g) (groups_account (with_group done g) groups)

    abbrev pub function_account : (ℕ → Bool) → (function : ℕ) → Account
    function_account done j = groups_account done (called_groups schedule j)

    -- counters are brought back
    abbrev pub counters_account : Account
    counters_account =
        let many = length (shared_groups schedule) in
        stores many (stored_each (range_with_len (child_field local (length local.children)) many))

    -- the update, where these nodes were executed before
    abbrev pub update_account : (Node → Bool) → Account
    update_account executed = all_of
        (nodes_account executed schedule.update
        ∷ all_of (map (memory_account local) (filter (λ r. is_delay r.op) local.rows))
        ∷ all_of (map (child_update_account (with_nodes_at local executed schedule.update))
        (enumerate_from 0 local.children))
        ∷ all_of (map child_reset_account (enumerate_from 0 local.children))
        ∷ trigger_account local
        ∷ counters_account ∷ [])

  -- in it each child is reset
  abbrev pub child_off_account : ℕ × ChildUse → Account
  child_off_account e =
      calls_child 1 (child_field local e.0) e.0 (instance_at children e.0) none_called reset

  -- the reset, which a system outside calls where it is off
  abbrev pub reset_account : Account
  reset_account = all_of
      (all_of (map (memory_reset_account local) (filter (λ r. is_delay r.op) local.rows))
      ∷ trigger_reset_account local
      ∷ all_of (map child_off_account (enumerate_from 0 local.children))
      ∷ [])
