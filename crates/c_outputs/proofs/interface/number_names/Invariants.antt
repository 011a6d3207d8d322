use Rattle.std.proofs.Common.{◌≡◌, map, take}
use Rattle.c_syntax.specs.PlainField.{field_trees}
use Rattle.c_syntax.specs.RootFields.{number_names}
use Rattle.c_outputs.proofs.interface.number_names.Given as goal

abbrev pub invariant-loop-field : goal.invariant-loop-field
invariant-loop-field l = map (λ n. n.now) l.names.items ≡ number_names (field_trees (take l.field-index l.fields))
