-- The schedule of a system's nodes, for an order of them and the groups that functions hold.
use Rattle.std.specs.Prelude.{ℕ, ◌^◌, Bool, not, ◌&&◌, ◌==◌, List, map, filter, length, slice_index, bit_and}
use Rattle.std.specs.List.{range_with_len}
use Rattle.modules_clusters.specs.NodeGroups.{NodeGroups}
use Rattle.modules_schedule.specs.SystemSchedule.{SystemSchedule}

-- whether no function holds the nodes of group g
abbrev pub is_unheld : NodeGroups → ℕ → Bool
is_unheld groups g = slice_index groups.holds g == 0

-- the nodes of group g in the order, none where no function holds them
abbrev pub nodes_of_group : List ℕ → NodeGroups → ℕ → List ℕ
nodes_of_group order groups g =
    filter (λ k. (slice_index groups.of k == g) && not (is_unheld groups g)) order

-- the groups that function j, from 0, holds, by number, where these are the sets of functions that
-- hold each group
abbrev pub groups_holding : List ℕ → ℕ → List ℕ
groups_holding holds j =
    filter (λ g. not (bit_and (slice_index holds g) (2 ^ j) == 0)) (range_with_len 0 (length holds))

-- the schedule for so many functions
abbrev pub schedule_for : List ℕ → NodeGroups → ℕ → SystemSchedule
schedule_for order groups count = record {
  groups = map (nodes_of_group order groups) (range_with_len 0 (length groups.holds));
  functions = map (groups_holding groups.holds) (range_with_len 0 count);
  update = filter (λ k. is_unheld groups (slice_index groups.of k)) order;
}
