use Rattle.std.proofs.Common.{sym, ◌∙◌}
use Rattle.c_syntax.specs.declared.code.CType.TheVariants.{I64}
use Rattle.c_syntax.specs.PlainField.{field_tree}
use Rattle.c_syntax.specs.Tree.{kind_type}
use Rattle.c_printer.proofs.lemmas.Lookups.{map-map_at}
use Rattle.c_printer.proofs.printing.names.field_type.Goals as goal

pub returns-in-Some : goal.returns-in-Some
returns-in-Some c =
    let found = c.in-Some.ensures.lookup in
    c.kind_type.ensures
    ∙ sym (map-map_at (λ f. kind_type f.kind) field_tree c.args.fields.now c.args.k c.in-Some.field.now I64
    found.3.0 found.1)
