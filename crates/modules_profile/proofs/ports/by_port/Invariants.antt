use Rattle.std.proofs.Common.{◌≡◌, ◌<◌, eqb, find, All, length}
use Rattle.std.specs.List.{filter_map, range_with_len}
use Rattle.diagram_meaning.specs.Rows.{row_at}
use Rattle.diagram_blocks.specs.Kinds.{port_of}
use Rattle.modules_profile.proofs.ports.by_port.Given as goal

abbrev pub invariant-loop-k : goal.invariant-loop-k
invariant-loop-k l = record {
  found_is : l.found.items ≡ filter_map (λ q. find (λ b. eqb (port_of (row_at l.r.tree.table.rows b).kind) q) l.rows)
      (range_with_len 1 l.k);
  are_rows : All (λ b. b < length l.r.tree.table.rows) l.found.items;
}
