use Rattle.std.proofs.Common.{sym, ◌∙◌, []}
use Rattle.c_syntax.specs.Plain.{program_tree}
use Rattle.c_syntax.specs.PlainField.{field_tree}
use Rattle.c_printer.specs.Printing.{kind_fields}
use Rattle.c_printer.proofs.lemmas.Lookups.{map-map_at}
use Rattle.c_printer.proofs.printing.names.Scope.inner_fields.Goals as goal

pub returns-in-Some : goal.returns-in-Some
returns-in-Some c =
    let found = c.in-Some.ensures.lookup in
    c.kind_fields.ensures
    ∙ sym (map-map_at (λ f. kind_fields (program_tree c.args.self.now.program.now).structs f.kind) field_tree
    c.args.self.now.fields.now c.args.k c.in-Some.field.now [] found.3.0 found.1)
