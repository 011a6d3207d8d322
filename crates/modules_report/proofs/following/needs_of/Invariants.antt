use Rattle.std.proofs.Common.{◌≡◌, map}
use Rattle.std.specs.List.{range_with_len}
use Rattle.modules_report.specs.Following.{need_of}
use Rattle.modules_report.proofs.following.needs_of.Given as goal

abbrev pub invariant-loop-k : goal.invariant-loop-k
invariant-loop-k l = l.needs.items ≡ map (need_of l.functions) (range_with_len 0 l.k)
