use Rattle.std.proofs.Common.{◌≡◌, ◌++◌, filter, map, take}
use Rattle.c_syntax.specs.PlainField.{field_trees}
use Rattle.emit_shape.specs.Delays.{is_single}
use Rattle.emit_shape.specs.Slots.{slot_field, memory}
use Rattle.emit_signatures.proofs.struct_fields.push_singles.Given as goal

abbrev pub invariant-loop-row : goal.invariant-loop-row
invariant-loop-row l = field_trees l.list.items ≡ field_trees l.initial.list.items
    ++ map (λ r. slot_field (memory r)) (filter (λ r. is_single r.op) (take l.row-index l.rows))
