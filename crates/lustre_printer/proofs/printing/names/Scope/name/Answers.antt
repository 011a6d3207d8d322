use Rattle.std.proofs.Common.{sym, ◌∙◌, []}
use Rattle.c_printer.proofs.lemmas.Lookups.{map-map_at}
use Rattle.lustre_printer.proofs.printing.names.Scope.name.Goals as goal

pub returns-in-Some : goal.returns-in-Some
returns-in-Some c =
    let found = c.in-Some.ensures.lookup in
    c.bytes.ensures
    ∙ sym (map-map_at (λ d. d.text) (λ x. record { text = x.0; type = x.1 }) c.args.self.now.names.now c.args.k
    c.in-Some.name.now [] found.3.0 found.1)
