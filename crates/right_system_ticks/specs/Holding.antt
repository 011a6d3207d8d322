-- By the schedule of a system: which nodes a function holds, which nodes were executed when some
-- groups were, and what counters say then.
use Rattle.std.specs.Prelude.{ℕ, suc, ◌-◌, Bool, false, ◌==◌, ◌||◌, ◌&&◌, if◌then◌else◌, List, [], ◌∷◌, bytes_eq, length, slice_get, slice_index_or, ℤ, pos}
use Rattle.std.specs.Option.{option_map_or}
use Rattle.std.specs.List.{list_any, range_with_len}
use Rattle.modules_profile.specs.declared.nodes.Node.{Node}
use Rattle.modules_profile.specs.LocalSystem.{LocalSystem}
use Rattle.modules_profile.specs.LocalNodes.{same_node, node_list}
use Rattle.modules_schedule.specs.SystemSchedule.{SystemSchedule}
use Rattle.emit_shape.specs.Names.{counter_name}
use Rattle.right_relation.specs.Standing.{with_node}
use Rattle.emit_system_spec.specs.Fields.{shared_groups}
use Rattle.emit_system_spec.specs.Groups.{group_nodes}

-- the groups that function j calls, from 1 on
abbrev pub called_groups : SystemSchedule → ℕ → List ℕ
called_groups schedule j = slice_index_or schedule.functions (j - 1) []

abbrev pub calls_group : SystemSchedule → ℕ → ℕ → Bool
calls_group schedule j g = list_any (λ i. i == g) (called_groups schedule j)

-- the groups that called functions call
abbrev pub done_by : SystemSchedule → (ℕ → Bool) → ℕ → Bool
done_by schedule called g =
    list_any (λ j. called j && calls_group schedule j g)
    (range_with_len 1 (length schedule.functions))

-- one group more
abbrev pub with_group : (ℕ → Bool) → ℕ → ℕ → Bool
with_group done g i = (i == g) || done i

-- ---- Nodes

module _ (local : LocalSystem) where
  -- node x is at this place of the system's nodes
  abbrev pub is_node_at : ℕ → Node → Bool
  is_node_at n x = option_map_or (same_node x) (slice_get (node_list local) n) false

  -- it is at one of these
  abbrev pub is_among : List ℕ → Node → Bool
  is_among nodes x = list_any (λ n. is_node_at n x) nodes

  -- the node at this place was executed as well
  abbrev pub with_node_at : (Node → Bool) → ℕ → Node → Bool
  with_node_at executed n =
      option_map_or (with_node executed) (slice_get (node_list local) n) executed

  -- so were those at these places
  abbrev pub with_nodes_at : (Node → Bool) → List ℕ → Node → Bool
  with_nodes_at executed [] = executed
  with_nodes_at executed (n ∷ nodes) = with_nodes_at (with_node_at executed n) nodes

  module _ (schedule : SystemSchedule) where
    -- the nodes of groups that were executed
    abbrev pub executed_in : (ℕ → Bool) → Node → Bool
    executed_in done x =
        list_any (λ g. done g && is_among (group_nodes schedule g) x)
        (range_with_len 0 (length schedule.groups))

    -- function j holds a node where it calls the node's group
    abbrev pub held : ℕ → Node → Bool
    held j x = list_any (λ g. is_among (group_nodes schedule g) x) (called_groups schedule j)

-- ---- Counters

-- the counter of this name: 1 where its group was executed, else 0
abbrev pub count_in : SystemSchedule → (ℕ → Bool) → List ℕ → ℤ
count_in schedule done name =
    if list_any (λ g. done g && bytes_eq (counter_name (suc g)) name) (shared_groups schedule)
    then pos 1 else pos 0

abbrev pub counted : SystemSchedule → (ℕ → Bool) → List ℕ → ℤ
counted schedule called = count_in schedule (done_by schedule called)
