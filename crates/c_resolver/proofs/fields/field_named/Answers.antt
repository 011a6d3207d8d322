use Rattle.std.proofs.Common.{sym, ◌∙◌, ap, Ok, bytes_eq}
use Rattle.std.specs.List.{position_from}
use Rattle.c_syntax.specs.declared.program.Field.{Field}
use Rattle.c_syntax.specs.PlainField.{field_tree, field_trees}
use Rattle.c_resolver.proofs.FieldPlaces.{named, unnamed, within-fields, slice_get-map_at}
use Rattle.c_resolver.proofs.fields.field_named.Goals as goal

pub bounds-fields-k : goal.bounds-fields-k
bounds-fields-k c =
    within-fields c.args.fields.now c.args.name.now c.in-Some.k
    (ap (position_from (bytes_eq c.args.name.now) 0) (sym c.requires) ∙ sym c.position.ensures ∙ c.in-Some.is)

pub bounds-fields-k-in-Some : goal.bounds-fields-k-in-Some
bounds-fields-k-in-Some c =
    within-fields c.args.fields.now c.args.name.now c.in-Some.k
    (ap (position_from (bytes_eq c.args.name.now) 0) (sym c.requires) ∙ sym c.position.ensures ∙ c.in-Some.is)

pub returns-in-Some : goal.returns-in-Some
returns-in-Some c =
    let there = ap (position_from (bytes_eq c.args.name.now) 0) (sym c.requires) ∙ sym c.position.ensures ∙ c.in-Some.is in
    let place =
    slice_get-map_at field_tree c.args.fields.now c.in-Some.k c.index-fields-k.result
    (within-fields c.args.fields.now c.args.name.now c.in-Some.k there) c.index-fields-k.is in
    ap (λ (f : Field). Ok (c.in-Some.k, f.kind)) (sym c.index-fields-k.is)
    ∙ sym (named (field_trees c.args.fields.now) c.args.name.now c.in-Some.k
    (field_tree c.index-fields-k.result) there place)

pub returns-in-None : goal.returns-in-None
returns-in-None c =
    sym (unnamed (field_trees c.args.fields.now) c.args.name.now
    (ap (position_from (bytes_eq c.args.name.now) 0) (sym c.requires) ∙ sym c.position.ensures ∙ c.in-None.is))
