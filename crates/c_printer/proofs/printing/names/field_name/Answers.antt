use Rattle.std.proofs.Common.{sym, ◌∙◌, []}
use Rattle.c_syntax.specs.PlainField.{field_tree}
use Rattle.c_printer.proofs.lemmas.Lookups.{map-map_at}
use Rattle.c_printer.proofs.printing.names.field_name.Goals as goal

pub returns-in-Some : goal.returns-in-Some
returns-in-Some c =
    let found = c.in-Some.ensures.lookup in
    c.bytes.ensures ∙ sym (map-map_at (λ f. f.name) field_tree c.args.fields.now c.args.k c.in-Some.field.now [] found.3.0 found.1)
