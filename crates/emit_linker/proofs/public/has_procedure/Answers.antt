use Rattle.std.proofs.Common.{List, bytes_eq, ap, ◌∙◌}
use Rattle.std.specs.List.{position_from}
use Rattle.std.specs.Option.{is_some}
use Rattle.c_syntax.specs.Tree.{ProcedureTree}
use Rattle.emit_shape.specs.SystemTree.{system_tree}
use Rattle.emit_linker.proofs.OutNames.{any-place}
use Rattle.emit_linker.proofs.public.has_procedure.Goals as goal

pub returns : goal.returns
returns c =
    let named = λ (q : ProcedureTree). bytes_eq q.name c.args.name.now in
    c.is_some.ensures ∙ ap is_some (c.place_of.ensures
    ∙ ap (λ (ps : List ProcedureTree). position_from named 0 ps) c.procedures_of.ensures)
    ∙ any-place named 0 (system_tree c.args.code.now).procedures
