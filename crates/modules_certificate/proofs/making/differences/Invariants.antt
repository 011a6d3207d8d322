use Rattle.std.proofs.Common.{◌≡◌, ◌-◌, ◌++◌, length}
use Rattle.modules_certificate.specs.Sound.{differences_from}
use Rattle.modules_certificate.proofs.making.differences.Given as goal

abbrev pub invariant-loop-first : goal.invariant-loop-first
invariant-loop-first l =
    l.differ.items ++ differences_from l.needs l.representatives l.first (length l.representatives - l.first)
    ≡ differences_from l.needs l.representatives 0 (length l.representatives)
