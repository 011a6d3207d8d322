use Rattle.std.proofs.Common.{◌≡◌, ◌++◌, map, take}
use Rattle.std.specs.List.{enumerate_from}
use Rattle.c_syntax.specs.PlainField.{field_trees}
use Rattle.emit_shape.specs.Slots.{slot_field, instance}
use Rattle.emit_signatures.proofs.struct_fields.push_children.Given as goal

abbrev pub invariant-loop-place : goal.invariant-loop-place
invariant-loop-place l = field_trees l.list.items ≡ field_trees l.initial.list.items
    ++ map (λ e. slot_field (instance e.0 e.1)) (enumerate_from 0 (take l.place l.children))
