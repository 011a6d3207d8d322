use Rattle.std.proofs.Common.{◌≡◌, map, drop}
use Rattle.c_syntax.specs.PlainField.{field_trees}
use Rattle.c_grammar.specs.WrittenTrees.{field_of}
use Rattle.c_resolver.specs.Fields.{names_in, fields_behind}
use Rattle.c_resolver.specs.Scopes.{known_of}
use Rattle.c_resolver.proofs.structs.resolve_fields.Given as goal

abbrev pub invariant-loop-field : goal.invariant-loop-field
invariant-loop-field l =
    let before = l.fn.resolved.items.items in
    let now = l.resolved.items.items in
    fields_behind (known_of l.scope.known.now) l.scope.is_root (names_in l.scope.numbers.now) (field_trees before) (map (λ f. f.name) before)
    (map field_of l.fields)
    ≡ fields_behind (known_of l.scope.known.now) l.scope.is_root (names_in l.scope.numbers.now) (field_trees now) (map (λ f. f.name) now)
    (map field_of (drop l.field-index l.fields))
