use Rattle.std.proofs.Common.{◌≡◌, ◌++◌, map, take}
use Rattle.c_syntax.specs.PlainField.{field_trees}
use Rattle.emit_shape.specs.Slots.{slot_field}
use Rattle.emit_system_spec.specs.Fields.{counter_slot}
use Rattle.emit_signatures.proofs.struct_fields.push_counters.Given as goal

abbrev pub invariant-loop-group : goal.invariant-loop-group
invariant-loop-group l = field_trees l.list.items ≡ field_trees l.initial.list.items
    ++ map (λ g. slot_field (counter_slot g)) (take l.group-index l.groups)
