use Rattle.std.proofs.Common.{sym, ◌∙◌, ap, [], map}
use Rattle.std.proofs.lemmas.Simd.{map-map}
use Rattle.c_syntax.specs.Plain.{procedure_tree}
use Rattle.c_printer.proofs.lemmas.Lookups.{map-map_at}
use Rattle.c_printer.proofs.printing.names.procedure_params.Goals as goal

pub returns-in-Some : goal.returns-in-Some
returns-in-Some c =
    let found = rw c.deref.ensures.value at c.in-Some.ensures.lookup in
    ap (map (λ q. q.1)) c.as_slice.ensures.value
    ∙ sym (map-map_at (λ q. map (λ x. x.type) q.params) procedure_tree c.args.program.now.procedures.items c.args.k
    c.in-Some.procedure.now [] found.3.0 found.1
    ∙ map-map (λ x. x.type) (λ q. record { name = q.0; type = q.1 }) c.in-Some.procedure.now.params.items)
