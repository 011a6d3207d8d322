use Rattle.std.proofs.Common.{◌≡◌, ◌+◌, take}
use Rattle.c_syntax.specs.PlainField.{field_trees}
use Rattle.c_interpreter.specs.Numbering.{fields_count}
use Rattle.c_interpreter.proofs.instances.field_holding.Given as goal

abbrev pub invariant-loop-i : goal.invariant-loop-i
invariant-loop-i l = l.number ≡ fields_count l.counts (field_trees (take l.i l.fields)) + l.left
