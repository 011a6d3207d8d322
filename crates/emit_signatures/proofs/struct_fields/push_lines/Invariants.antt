use Rattle.std.proofs.Common.{◌≡◌, ◌++◌, filter, map, take}
use Rattle.std.specs.List.{flat_map}
use Rattle.c_syntax.specs.PlainField.{field_trees}
use Rattle.emit_shape.specs.Delays.{is_line}
use Rattle.emit_shape.specs.Slots.{slot_field, ring_slots}
use Rattle.emit_signatures.proofs.struct_fields.push_lines.Given as goal

abbrev pub invariant-loop-row : goal.invariant-loop-row
invariant-loop-row l = field_trees l.list.items ≡ field_trees l.initial.list.items
    ++ flat_map (λ r. map slot_field (ring_slots r)) (filter (λ r. is_line r.op) (take l.row-index l.rows))
