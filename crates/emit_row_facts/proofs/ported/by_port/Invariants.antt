use Rattle.std.proofs.Common.{◌≡◌, ◌==◌, find}
use Rattle.std.specs.List.{filter_map, range_with_len}
use Rattle.emit_row_facts.proofs.ported.by_port.Given as goal

abbrev pub invariant-loop-k : goal.invariant-loop-k
invariant-loop-k l = l.found.items ≡ filter_map (λ k. find (λ e. e.port == k) l.among) (range_with_len 1 l.k)
