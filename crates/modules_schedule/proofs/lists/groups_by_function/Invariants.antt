use Rattle.std.proofs.Common.{◌≡◌, map}
use Rattle.std.specs.List.{range_with_len}
use Rattle.modules_schedule.specs.Scheduling.{groups_holding}
use Rattle.modules_schedule.proofs.lists.groups_by_function.Given as goal

abbrev pub invariant-loop-j : goal.invariant-loop-j
invariant-loop-j l = l.lists.items ≡ map (groups_holding l.holds) (range_with_len 0 l.j)
