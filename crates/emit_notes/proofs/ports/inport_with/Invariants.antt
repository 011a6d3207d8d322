use Rattle.std.proofs.Common.{◌≡◌, drop}
use Rattle.c_syntax.specs.PlainField.{field_trees}
use Rattle.emit_notes.specs.FunctionNotes.{inport_with}
use Rattle.emit_notes.proofs.ports.inport_with.Given as goal

abbrev pub invariant-loop-field : goal.invariant-loop-field
invariant-loop-field l =
    inport_with l.labels l.port (field_trees (drop l.field-index l.fields)) ≡ inport_with l.fn.labels l.fn.port (field_trees l.fn.fields)
