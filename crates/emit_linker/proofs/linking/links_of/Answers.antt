use Rattle.std.proofs.Common.{ℕ, List, Bor, map, length, ap, ◌∙◌}
use Rattle.std.specs.List.{flat_map}
use Rattle.c_syntax.specs.Tree.{FieldTree}
use Rattle.emit_shape.specs.SystemTree.{SystemTree}
use Rattle.emit_shape.specs.Assembled.{code_at, code_named, child_names, public_positions}
use Rattle.emit_linker.specs.Places.{trees}
use Rattle.emit_linker.proofs.CodePlaces.{links-are}
use Rattle.emit_linker.proofs.linking.links_of.Goals as goal

pub returns : goal.returns
returns c =
    let all = trees c.args.codes.now.list.now in
    let code = c.at-code.ensures in
    let outs : List ℕ → List ℕ = λ name. (code_at all (code_named all name)).outputs in
    let offered : List (List ℕ) → List ℕ = λ names. flat_map (λ (name : List ℕ). public_positions all (code_named all name)) names in
    links-are all c.args.i (record {
      own = c.in_ok-own_count.field-0;
      first = c.first_procedure.result;
      offered =
          c.in_ok-offered_by.field-0;
      outputs = c.in_ok-field_outputs.field-0;
      beyond = c.outputs_under.result;
      of = c.struct_position.result;
    })
    (c.in_ok-own_count.ensures ∙ ap (λ (s : SystemTree). length s.procedures) code)
    c.first_procedure.ensures
    (c.in_ok-offered_by.ensures ∙ ap (λ (names : List (Bor (List ℕ))). offered (map (λ (n : Bor (List ℕ)). n.now) names))
    c.deref.ensures.value ∙ ap offered (c.in_ok-names.ensures ∙ ap child_names code))
    (c.in_ok-field_outputs.ensures ∙ ap (λ (fields : List FieldTree). map (λ (f : FieldTree). outs f.name) fields)
    (c.fields_of.ensures ∙ ap (λ (s : SystemTree). s.structure.fields) code))
    (c.outputs_under.ensures ∙ ap outs c.as_slice.ensures)
    c.struct_position.ensures
