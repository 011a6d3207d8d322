use Rattle.std.proofs.Common.{◌≡◌, take}
use Rattle.c_syntax.specs.PlainField.{field_trees}
use Rattle.c_interpreter.specs.Numbering.{fields_count}
use Rattle.c_interpreter.proofs.instances.fields_count.Given as goal

abbrev pub invariant-loop-field : goal.invariant-loop-field
invariant-loop-field l = l.count ≡ fields_count l.counts (field_trees (take l.field-index l.fields))
