use Rattle.std.proofs.Common.{◌≡◌, map}
use Rattle.c_syntax.specs.Outputs.{numbers_from, output_name}
use Rattle.c_syntax.specs.PlainField.{field_trees}
use Rattle.c_syntax.specs.RootFields.{field_position}
use Rattle.c_interpreter.proofs.roots.output_fields.Given as goal

abbrev pub invariant-loop-k : goal.invariant-loop-k
invariant-loop-k l = l.positions.items ≡ map (field_position (field_trees l.fields)) (map output_name (numbers_from 1 l.k))
