use Rattle.std.proofs.Common.{◌≡◌, take}
use Rattle.c_syntax.specs.PlainField.{field_trees}
use Rattle.c_interpreter.specs.Layouts.{slots_from, end_of}
use Rattle.c_interpreter.proofs.layouts.layout_of.Given as goal

abbrev pub invariant-loop-field : goal.invariant-loop-field
invariant-loop-field l = (l.slots.items ≡ slots_from l.earlier 0 (field_trees (take l.field-index l.fields)))
    × (l.at ≡ end_of l.earlier 0 (field_trees (take l.field-index l.fields)))
