use Rattle.std.proofs.Common.{◌∙◌, ap, ◌++◌, ◌∷◌, [], List, ℕ}
use Rattle.c_syntax.specs.PlainField.{field_tree}
use Rattle.c_syntax.specs.RootFields.{number_names}
use Rattle.c_outputs.proofs.NumberNames.{number_names-up_to}
use Rattle.c_outputs.proofs.interface.number_names.Goals as goal

pub loop-field-preserved : goal.loop-field-preserved
loop-field-preserved c =
    c.in_ok-push_number.ensures
    ∙ ap (λ (ns : List (List ℕ)). ns ++ number_names (field_tree c.field-item.result ∷ [])) c.loop-field.invariant
    ∙ number_names-up_to c.args.fields.now c.loop-field.field-index c.field-item.result c.loop-field-test.true
    c.field-item.is
