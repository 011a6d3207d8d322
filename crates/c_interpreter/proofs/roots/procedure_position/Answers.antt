use Rattle.std.proofs.Common.{ap, ◌∙◌, unwrap_or, List, bytes_eq}
use Rattle.std.specs.List.{position_from}
use Rattle.c_syntax.specs.declared.program.Procedure.{Procedure}
use Rattle.c_interpreter.proofs.RootLaws.{procedure_position_is}
use Rattle.c_interpreter.proofs.roots.procedure_position.Goals as goal

pub returns : goal.returns
returns c =
    c.unwrap_or.ensures
    ∙ ap (λ o. unwrap_or o 0) (c.procedure_named.ensures
    ∙ ap (λ (xs : List Procedure). position_from (λ q. bytes_eq q.name c.args.name.now) 0 xs) c.deref.ensures.value
    ∙ procedure_position_is c.args.program.now.procedures.items c.args.name.now)
