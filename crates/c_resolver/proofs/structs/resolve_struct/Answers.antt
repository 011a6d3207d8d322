use Rattle.std.proofs.Common.{sym, ◌∙◌, subst, map, filter_map, List, ℕ, Ok, Result, bytes_eq, codes}
use Rattle.c_syntax.specs.declared.fault.CFault.{CFault}
use Rattle.c_syntax.specs.declared.program.Field.{Field}
use Rattle.c_syntax.specs.PlainField.{field_tree, field_trees}
use Rattle.c_syntax.specs.Tree.{FieldTree, StructTree}
use Rattle.c_rules.specs.Resolve.{number_name, resolve_struct}
use Rattle.c_grammar.specs.WrittenTrees.{struct_of}
use Rattle.c_rules.specs.Gives.{Fails}
use Rattle.c_resolver.specs.Scopes.{known_of}
use Rattle.c_rules.proofs.lemmas.Fails.{gives-same}
use Rattle.c_rules.proofs.lemmas.NamedPlaces.{map-map}
use Rattle.c_resolver.proofs.StructLaws.{behind_none, fails_fields, gives_struct}
use Rattle.c_resolver.proofs.structs.resolve_struct.Goals as goal

pub returns-in_err-resolve_all_fields-clause-resolved : goal.returns-in_err-resolve_all_fields-clause-resolved
returns-in_err-resolve_all_fields-clause-resolved c =
    let known = known_of c.args.known.now in
    let d = struct_of c.args.d.now in
    let free = sym c.contains.ensures ∙ c.if-contains.false in
    let e = c.in_err-resolve_all_fields.field-0.0 in
    let behind =
    behind_none known (bytes_eq d.name (codes "root")) (filter_map number_name d.fields) c.new-table.result.items.items
    d.fields c.new-table.ensures in
    gives-same (λ (r : StructTree × List (List ℕ)). r.0) c.from_residual-in_err-resolve_all_fields.result e
    (resolve_struct known d) c.from_residual-in_err-resolve_all_fields.ensures.1
    (fails_fields known d free e
    (subst (λ (ruled : Result (List FieldTree) CFault). Fails e ruled) behind c.in_err-resolve_all_fields.ensures))

pub returns-clause-resolved : goal.returns-clause-resolved
returns-clause-resolved c =
    let known = known_of c.args.known.now in
    let d = struct_of c.args.d.now in
    let free = sym c.contains.ensures ∙ c.if-contains.false in
    let behind =
    behind_none known (bytes_eq d.name (codes "root")) (filter_map number_name d.fields) c.new-table.result.items.items
    d.fields c.new-table.ensures in
    let fields = c.resolve_all_fields.new.resolved.items.items in
    gives_struct known d free (field_trees fields) (sym behind ∙ c.in_ok-resolve_all_fields.ensures)
    ∙ (λ j. Ok (record {
      name = sym c.in_ok-name.ensures j;
      fields = field_trees (sym c.into_parts-fields.ensures.items j).items;
    }))

pub returns-clause-fields : goal.returns-clause-fields
returns-clause-fields c =
    let parts = c.into_parts-fields in
    parts.ensures.names ∙ (λ j. map (λ (f : Field). f.name) (sym parts.ensures.items j).items)
    ∙ sym (map-map (λ (g : FieldTree). g.name) field_tree parts.result.0.items)
