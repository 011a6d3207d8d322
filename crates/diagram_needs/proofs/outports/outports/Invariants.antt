use Rattle.std.proofs.Common.{◌≡◌, ◌==◌, find}
use Rattle.std.specs.List.{filter_map, range_with_len}
use Rattle.diagram_meaning.specs.Rows.{row_at}
use Rattle.diagram_blocks.specs.Kinds.{port_of}
use Rattle.diagram_needs.proofs.outports.outports.Given as goal

abbrev pub invariant-loop-k : goal.invariant-loop-k
invariant-loop-k l = l.found.items ≡ filter_map (λ q. find (λ b. port_of (row_at l.rows b).kind == q) l.own.items) (range_with_len 1 l.k)
