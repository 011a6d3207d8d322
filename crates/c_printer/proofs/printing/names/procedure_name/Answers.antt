use Rattle.std.proofs.Common.{sym, ◌∙◌, []}
use Rattle.c_syntax.specs.Plain.{procedure_tree}
use Rattle.c_printer.proofs.lemmas.Lookups.{map-map_at}
use Rattle.c_printer.proofs.printing.names.procedure_name.Goals as goal

pub returns-in-Some : goal.returns-in-Some
returns-in-Some c =
    let found = rw c.deref.ensures.value at c.in-Some.ensures.lookup in
    c.bytes.ensures
    ∙ sym (map-map_at (λ q. q.name) procedure_tree c.args.program.now.procedures.items c.args.k
    c.in-Some.procedure.now [] found.3.0 found.1)
