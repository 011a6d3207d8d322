use Rattle.std.proofs.Common.{◌≡◌, map, length, take}
use Rattle.std.specs.List.{range_with_len}
use Rattle.modules_schedule.specs.Scheduling.{nodes_of_group}
use Rattle.modules_schedule.proofs.lists.nodes_by_group.Given as goal

abbrev pub invariant-loop-k : goal.invariant-loop-k
invariant-loop-k l = l.lists.items ≡ map (nodes_of_group (take l.k-index l.order) l.g) (range_with_len 0 (length l.g.holds))
