use Rattle.std.proofs.Common.{◌≡◌, map, take}
use Rattle.c_syntax.specs.PlainField.{field_tree}
use Rattle.emit_notes.specs.BlockNotes.{field_note}
use Rattle.emit_notes.proofs.notes.field_notes.Given as goal

abbrev pub invariant-loop-field : goal.invariant-loop-field
invariant-loop-field l =
    map (λ note. note.items) l.notes.items ≡ map (field_note l.labels) (map field_tree (take l.field-index l.fields))
