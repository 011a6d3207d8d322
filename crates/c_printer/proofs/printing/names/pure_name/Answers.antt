use Rattle.std.proofs.Common.{sym, ◌∙◌, []}
use Rattle.c_syntax.specs.Plain.{pure_tree}
use Rattle.c_printer.proofs.lemmas.Lookups.{map-map_at}
use Rattle.c_printer.proofs.printing.names.pure_name.Goals as goal

pub returns-in-Some : goal.returns-in-Some
returns-in-Some c =
    let found = rw c.deref.ensures.value at c.in-Some.ensures.lookup in
    c.bytes.ensures
    ∙ sym (map-map_at (λ q. q.name) pure_tree c.args.program.now.pure.items c.args.k c.in-Some.pure.now
    [] found.3.0 found.1)
