use Rattle.std.proofs.Common.{◌≡◌, filter, take, get_or}
use Rattle.modules_schedule.specs.Scheduling.{is_unheld}
use Rattle.modules_schedule.proofs.lists.unheld_nodes.Given as goal

abbrev pub invariant-loop-k : goal.invariant-loop-k
invariant-loop-k l = l.list ≡ filter (λ k. is_unheld l.g (get_or l.g.of k 0)) (take l.k-index l.order)
