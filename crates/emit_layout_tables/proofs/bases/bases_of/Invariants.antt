use Rattle.std.proofs.Common.{◌≡◌, ◌+◌, map, take, length}
use Rattle.std.specs.List.{range_with_len, sum_by}
use Rattle.modules_profile.specs.Headers.{header_functions}
use Rattle.emit_layout_tables.proofs.bases.bases_of.Given as goal

abbrev pub invariant-loop-child : goal.invariant-loop-child
invariant-loop-child l =
    (l.next ≡ l.count + sum_by (λ u. length (header_functions u.header) + 3) (take l.child-index l.children))
    × (l.bases.items ≡ map (λ k. l.count + sum_by (λ u. length (header_functions u.header) + 3) (take k l.children))
    (range_with_len 0 (l.child-index + 1)))
