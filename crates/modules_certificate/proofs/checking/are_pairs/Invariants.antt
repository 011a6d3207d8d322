use Rattle.std.proofs.Common.{◌≡◌, map, take}
use Rattle.modules_certificate.specs.Sound.{pairs_with, positions}
use Rattle.modules_certificate.proofs.checking.are_pairs.Given as goal

abbrev pub invariant-loop-k : goal.invariant-loop-k
invariant-loop-k l = map positions (take l.k l.differ) ≡ pairs_with l.first l.k
