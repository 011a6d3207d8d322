use Rattle.std.proofs.Common.{◌≡◌, ◌++◌, filter, map, take}
use Rattle.diagram_blocks.specs.Meaning.{has_value}
use Rattle.c_syntax.specs.PlainField.{field_trees}
use Rattle.emit_shape.specs.Slots.{slot_field, value}
use Rattle.emit_signatures.proofs.struct_fields.push_values.Given as goal

abbrev pub invariant-loop-row : goal.invariant-loop-row
invariant-loop-row l = field_trees l.list.items ≡ field_trees l.initial.list.items
    ++ map (λ r. slot_field (value r)) (filter (λ r. has_value r.kind) (take l.row-index l.rows))
