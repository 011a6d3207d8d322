use Rattle.std.proofs.Common.{◌≡◌, map, take}
use Rattle.c_syntax.specs.PlainField.{field_trees}
use Rattle.emit_shape.specs.Assembled.{code_at, code_named}
use Rattle.emit_linker.specs.Places.{trees}
use Rattle.emit_linker.proofs.linking.field_outputs.Given as goal

abbrev pub invariant-loop-field : goal.invariant-loop-field
invariant-loop-field l = map (λ x. x.now) l.list.items
    ≡ map (λ f. (code_at (trees l.codes.list.now) (code_named (trees l.codes.list.now) f.name)).outputs)
    (field_trees (take l.field-index l.fields))
