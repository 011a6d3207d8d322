use Rattle.std.proofs.Common.{◌≡◌, ◌+◌, ◌-◌, ◌++◌, map}
use Rattle.std.specs.List.{range_with_len}
use Rattle.modules_certificate.specs.Sound.{difference_of}
use Rattle.modules_certificate.proofs.making.push_differences.Given as goal

abbrev pub invariant-loop-second : goal.invariant-loop-second
invariant-loop-second l =
    l.differ.items ≡ l.fn.differ.items ++ map (difference_of l.needs l.representatives l.first) (range_with_len (l.first + 1)
    (l.second - (l.first + 1)))
