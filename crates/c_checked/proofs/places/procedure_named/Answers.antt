use Rattle.std.proofs.Common.{sym, ◌∙◌, ap, position, bytes_eq}
use Rattle.c_syntax.specs.declared.program.Procedure.{Procedure}
use Rattle.c_syntax.specs.Tree.{ProcedureTree}
use Rattle.c_syntax.specs.Plain.{procedure_tree}
use Rattle.c_checked.proofs.PlaceLaws.{position-mapped}
use Rattle.c_checked.proofs.places.procedure_named.Goals as goal

pub returns-in-Some : goal.returns-in-Some
returns-in-Some c =
    let name = c.args.name.now in
    sym c.in-Some.is ∙ c.position_of_procedure.ensures
    ∙ ap (position (λ (p : Procedure). bytes_eq p.name name)) c.as_slice.ensures.value
    ∙ position-mapped procedure_tree (λ (q : ProcedureTree). bytes_eq q.name name)
    c.args.program.now.procedures.items

pub returns-in-None : goal.returns-in-None
returns-in-None c =
    let name = c.args.name.now in
    sym c.in-None.is ∙ c.position_of_procedure.ensures
    ∙ ap (position (λ (p : Procedure). bytes_eq p.name name)) c.as_slice.ensures.value
    ∙ position-mapped procedure_tree (λ (q : ProcedureTree). bytes_eq q.name name)
    c.args.program.now.procedures.items
