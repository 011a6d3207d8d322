use Rattle.std.proofs.Common.{◌≡◌, ◌++◌, map}
use Rattle.std.specs.List.{range_with_len}
use Rattle.lustre_system.specs.Functions.{int_name}
use Rattle.lustre_system.specs.Names as names
use Rattle.lustre_system_nodes.proofs.row_names.push_samples.Given as goal

abbrev pub invariant-loop-k : goal.invariant-loop-k
invariant-loop-k l = l.list ≡ l.fn.list ++ map (λ k. int_name (names.sample_name l.b k)) (range_with_len 0 l.k)
