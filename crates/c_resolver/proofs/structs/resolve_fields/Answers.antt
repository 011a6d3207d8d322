use Rattle.std.proofs.Common.{◌≡◌, sym, ◌∙◌, ap, map, length, drop, ◌+◌, ◌++◌, ◌∷◌, [], List, Ok, Err, arith}
use Rattle.c_syntax.specs.declared.program.Field.{Field}
use Rattle.c_syntax.specs.PlainField.{field_tree, field_trees}
use Rattle.c_syntax.specs.Tree.{FieldTree}
use Rattle.c_rules.specs.Resolve as rules
use Rattle.c_grammar.specs.declared.fault.ReadCFault.TheVariants.{Refused}
use Rattle.c_grammar.specs.WrittenTrees.{field_of}
use Rattle.c_resolver.specs.Fields.{names_in, named_kind, fields_behind}
use Rattle.c_resolver.specs.Scopes.{known_of}
use Rattle.c_rules.proofs.lemmas.Fails.{gives-same}
use Rattle.c_rules.proofs.lemmas.NamedPlaces.{map-map}
use Rattle.c_rules.proofs.lemmas.Each.{map_push}
use Rattle.c_rules.proofs.lemmas.ParamLaws.{from_place, from_end}
use Rattle.c_resolver.proofs.StructLaws.{named-ok, named-err, new-field, field-passes, field-fails, fields-end}
use Rattle.c_resolver.proofs.structs.resolve_fields.Goals as goal

pub returns-in_err-kind : goal.returns-in_err-kind
returns-in_err-kind c =
    let known = known_of c.args.scope.now.known.now in
    let numbers = names_in c.args.scope.now.numbers.now in
    let i = c.loop-field.field-index in
    let f = field_of c.field-item.result in
    let items = c.loop-field.resolved.items.items in
    let names = map (λ (g : Field). g.name) items in
    let before = c.args.resolved.now.items.items in
    let fault = c.in_err-kind.field-0.0 in
    let rest = map field_of (drop (i + 1) c.args.fields.now) in
    let on : rules.on_line f.line (rules.resolve_field known c.args.scope.now.is_root numbers names f) ≡ Err fault =
    ap (rules.on_line f.line) c.resolve_field.ensures
    ∙ named-err f.line f.name c.resolve_field.result fault (sym c.on_line.ensures ∙ c.in_err-kind.was) in
    gives-same (λ _. field_trees items) c.from_residual.result (Refused fault)
    (fields_behind known c.args.scope.now.is_root numbers (field_trees before) (map (λ (g : Field). g.name) before)
    (map field_of c.args.fields.now)) c.from_residual.ensures.1 (c.loop-field.invariant
    ∙ ap (fields_behind known c.args.scope.now.is_root numbers (field_trees items) names)
    (from_place field_of c.args.fields.now i c.field-item.result c.loop-field-test.true c.field-item.is)
    ∙ field-fails known c.args.scope.now.is_root numbers (field_trees items) names f rest fault on)

pub push_field-requires : goal.push_field-requires
push_field-requires c =
    let known = known_of c.args.scope.now.known.now in
    let numbers = names_in c.args.scope.now.numbers.now in
    let f = field_of c.field-item.result in
    let kind = c.in_ok-kind.kind in
    let names = map (λ (g : Field). g.name) c.loop-field.resolved.items.items in
    let found : c.resolve_field.result ≡ Ok kind =
    named-ok f.line f.name c.resolve_field.result kind (sym c.on_line.ensures ∙ c.in_ok-kind.was) in
    new-field known c.args.scope.now.is_root numbers names f (record { name = f.name; kind = kind })
    (c.resolve_field.ensures ∙ ap (named_kind f.name) found)

pub loop-field-preserved : goal.loop-field-preserved
loop-field-preserved c =
    let known = known_of c.args.scope.now.known.now in
    let numbers = names_in c.args.scope.now.numbers.now in
    let i = c.loop-field.field-index in
    let f = field_of c.field-item.result in
    let items = c.loop-field.resolved.items.items in
    let names = map (λ (g : Field). g.name) items in
    let kind = c.in_ok-kind.kind in
    let rest = map field_of (drop (i + 1) c.args.fields.now) in
    let x : FieldTree = record { name = f.name; kind = kind } in
    let found : c.resolve_field.result ≡ Ok kind =
    named-ok f.line f.name c.resolve_field.result kind (sym c.on_line.ensures ∙ c.in_ok-kind.was) in
    let resolved : rules.resolve_field known c.args.scope.now.is_root numbers names f ≡ Ok x =
    c.resolve_field.ensures ∙ ap (named_kind f.name) found in
    let after = c.push_field.new.fields.items.items in
    let pushed : field_trees items ++ x ∷ [] ≡ field_trees after = sym c.in_ok-push_field.ensures in
    let more : names ++ f.name ∷ [] ≡ map (λ (g : Field). g.name) after =
    (λ j. sym (names-of-trees items) j ++ f.name ∷ [])
    ∙ map_push (λ (g : FieldTree). g.name) (field_trees items) x
    ∙ ap (map (λ (g : FieldTree). g.name)) pushed ∙ names-of-trees after in
    c.loop-field.invariant ∙ ap (fields_behind known c.args.scope.now.is_root numbers (field_trees items) names)
    (from_place field_of c.args.fields.now i c.field-item.result c.loop-field-test.true c.field-item.is)
    ∙ field-passes known c.args.scope.now.is_root numbers (field_trees items) names f rest x (ap (rules.on_line f.line) resolved)
    ∙ (λ j. fields_behind known c.args.scope.now.is_root numbers (pushed j) (more j) rest)
  where
    names-of-trees : (fields : List Field) → map (λ (g : FieldTree). g.name) (field_trees fields) ≡ map (λ (g : Field). g.name) fields
    names-of-trees = map-map (λ (g : FieldTree). g.name) field_tree

pub returns : goal.returns
returns c =
    let known = known_of c.args.scope.now.known.now in
    let numbers = names_in c.args.scope.now.numbers.now in
    let i = c.loop-field.field-index in
    let items = c.loop-field.resolved.items.items in
    let names = map (λ (g : Field). g.name) items in
    let all : length c.args.fields.now ≡ i = omega (arith, c.loop-field-test.false, c.loop-field.auto.field-index-end) in
    c.loop-field.invariant ∙ ap (fields_behind known c.args.scope.now.is_root numbers (field_trees items) names)
    (from_end field_of c.args.fields.now i all) ∙ fields-end known c.args.scope.now.is_root numbers (field_trees items) names
