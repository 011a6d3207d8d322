use Rattle.std.proofs.Common.{◌≡◌, map, take}
use Rattle.c_syntax.specs.PlainField.{field_trees}
use Rattle.emit_shape.specs.Assembled.{moved_kind}
use Rattle.emit_linker.specs.Places.{trees}
use Rattle.emit_linker.proofs.structs.moved_fields.Given as goal

abbrev pub invariant-loop-field : goal.invariant-loop-field
invariant-loop-field l = field_trees l.list.items
    ≡ map (λ f. record { name = f.name; kind = moved_kind (trees l.codes.list.now) f.name f.kind })
    (field_trees (take l.field-index l.fields))
