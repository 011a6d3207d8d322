use Rattle.std.proofs.Common.{◌≡◌, ◌^◌, not, eqb, filter, length, take, get_or, bit_and}
use Rattle.std.specs.List.{range_with_len}
use Rattle.modules_schedule.proofs.lists.groups_of_function.Given as goal

abbrev pub invariant-loop-group : goal.invariant-loop-group
invariant-loop-group l =
    l.list ≡ filter (λ g. not (eqb (bit_and (get_or l.holds g 0) (2 ^ l.j)) 0))
    (take l.group (range_with_len 0 (length l.holds)))
