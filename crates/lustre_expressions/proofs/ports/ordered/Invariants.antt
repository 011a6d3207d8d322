use Rattle.std.proofs.Common.{◌≡◌, eqb, find}
use Rattle.std.specs.List.{filter_map, range_with_len}
use Rattle.diagram_blocks.specs.Kinds.{port_of}
use Rattle.diagram_meaning.specs.Rows.{row_at}
use Rattle.lustre_expressions.proofs.ports.ordered.Given as goal

abbrev pub invariant-loop-k : goal.invariant-loop-k
invariant-loop-k l = l.found.items
    ≡ filter_map (λ k. find (λ b. eqb (port_of (row_at l.rows b).kind) k) l.among) (range_with_len 1 l.k)
