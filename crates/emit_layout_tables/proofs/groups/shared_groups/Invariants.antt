use Rattle.std.proofs.Common.{◌≡◌, filter, nat_lt}
use Rattle.std.specs.List.{range_with_len}
use Rattle.emit_system_spec.specs.Fields.{call_count}
use Rattle.emit_layout_tables.proofs.groups.shared_groups.Given as goal

abbrev pub invariant-loop-group : goal.invariant-loop-group
invariant-loop-group l = l.shared.items ≡ filter (λ g. nat_lt 1 (call_count l.schedule g)) (range_with_len 0 l.group)
