use Rattle.std.proofs.Common.{◌≡◌, [], filter, slice_index_or}
use Rattle.std.specs.List.{range_with_len}
use Rattle.emit_system_spec.specs.Groups.{has_some}
use Rattle.emit_layout_tables.proofs.groups.groups_with_nodes.Given as goal

abbrev pub invariant-loop-group : goal.invariant-loop-group
invariant-loop-group l = l.found.items ≡ filter (λ g. has_some (slice_index_or l.groups g [])) (range_with_len 0 l.group)
