use Rattle.std.proofs.Common.{◌≡◌, map, take, filter_map}
use Rattle.c_rules.specs.Resolve.{number_name}
use Rattle.c_grammar.specs.WrittenTrees.{field_of}
use Rattle.c_resolver.proofs.numbers.number_names.Given as goal

abbrev pub invariant-loop-field : goal.invariant-loop-field
invariant-loop-field l = map (λ n. n.now) l.names.items ≡ filter_map number_name (map field_of (take l.field-index l.fields))
