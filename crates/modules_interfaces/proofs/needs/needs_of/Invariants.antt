use Rattle.std.proofs.Common.{◌≡◌, map}
use Rattle.std.specs.List.{range_with_len}
use Rattle.modules_interfaces.specs.Needs.{need_of}
use Rattle.modules_interfaces.proofs.needs.needs_of.Given as goal

abbrev pub invariant-loop-k : goal.invariant-loop-k
invariant-loop-k l = l.needs.items ≡ map (need_of l.functions) (range_with_len 0 l.k)
