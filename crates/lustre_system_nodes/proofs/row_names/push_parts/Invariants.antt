use Rattle.std.proofs.Common.{◌≡◌, ◌++◌, map}
use Rattle.std.specs.List.{range_with_len}
use Rattle.lustre_system.specs.Functions.{int_name}
use Rattle.lustre_system.specs.Names as names
use Rattle.lustre_system_nodes.proofs.row_names.push_parts.Given as goal

abbrev pub invariant-loop-k : goal.invariant-loop-k
invariant-loop-k l = l.list ≡ l.fn.list ++ map (λ n. int_name (names.part_name l.b n)) (range_with_len 1 l.k)
