use Rattle.std.proofs.Common.{sym, ◌∙◌, ap, map, ◌++◌, [], List, ℕ, Bool, Option, Some, None, if◌then◌else◌}
use Rattle.std.specs.List.{cons_option}
use Rattle.std.proofs.lemmas.List.{append-nil}
use denote.Ref.{Bor}
use Rattle.c_rules.specs.Resolve.{number_name}
use Rattle.c_grammar.specs.WrittenTrees.{field_of}
use Rattle.c_rules.proofs.lemmas.Each.{map_push}
use Rattle.c_resolver.proofs.FieldLists.{filter_map-up_to}
use Rattle.c_resolver.proofs.numbers.number_names.Goals as goal
use Rattle.c_resolver.proofs.numbers.number_names.Goals.{then-is_number+in_ok-push, else-is_number}

pub loop-field-preserved : goal.loop-field-preserved
loop-field-preserved c =
    let i = c.loop-field.field-index in
    let field = c.field-item.result in
    let now : Bor (List ℕ) → List ℕ = λ name. name.now in
    let before = map now c.loop-field.names.items in
    let told : Bool → Option (List ℕ) = λ b. if b then Some field.name.now else None in
    let step =
    ap (λ (xs : List (List ℕ)). xs ++ cons_option (number_name (field_of field)) []) c.loop-field.invariant
    ∙ filter_map-up_to number_name field_of c.args.fields.now i field c.loop-field-test.true c.field-item.is in
    elim c.if-is_number.branch [
      | then-is_number+in_ok-push w ↦ ap (λ v. map now v.items) w.names-is ∙ ap (map now) w.in_ok-push.ensures.items
          ∙ sym (map_push now c.loop-field.names.items field.name)
          ∙ ap (λ b. before ++ cons_option (told b) []) (sym w.if-is_number.true ∙ c.is_number.ensures) ∙ step
      | else-is_number w ↦ ap (λ v. map now v.items) w.names-is ∙ sym (append-nil before)
          ∙ ap (λ b. before ++ cons_option (told b) []) (sym w.if-is_number.false ∙ c.is_number.ensures) ∙ step
    ]
