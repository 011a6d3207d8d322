use Rattle.std.proofs.Common.{◌≡◌, ◌↔◌, ◌-◌, map}
use Rattle.modules_certificate.specs.Sound.{pairs_below, pairs_from, positions}
use Rattle.modules_certificate.proofs.checking.are_all_pairs.Given as goal

abbrev pub invariant-loop-first : goal.invariant-loop-first
invariant-loop-first l = (map positions l.differ ≡ pairs_below l.count) ↔ (map positions l.rest ≡ pairs_from l.first (l.count - l.first))
