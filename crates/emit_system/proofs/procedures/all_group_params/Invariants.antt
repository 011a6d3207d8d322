use Rattle.std.proofs.Common.{◌≡◌, map}
use Rattle.std.specs.List.{range_with_len}
use Rattle.emit_system_spec.specs.EmittedCode.{group_params}
use Rattle.emit_system.proofs.procedures.all_group_params.Given as goal

abbrev pub invariant-loop-group : goal.invariant-loop-group
invariant-loop-group l = l.params.items
    ≡ map (group_params l.layout.local l.layout.profile l.layout.schedule) (range_with_len 0 l.group)
