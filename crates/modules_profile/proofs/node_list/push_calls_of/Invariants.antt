use Rattle.std.proofs.Common.{◌≡◌, ◌++◌, map}
use Rattle.std.specs.List.{range_with_len}
use Rattle.modules_profile.specs.declared.nodes.Node.TheVariants.{Call}
use Rattle.modules_profile.proofs.node_list.push_calls_of.Given as goal

abbrev pub invariant-loop-k : goal.invariant-loop-k
invariant-loop-k l = l.list.items ≡ l.initial.list.items ++ map (Call l.row) (range_with_len 1 l.k)
