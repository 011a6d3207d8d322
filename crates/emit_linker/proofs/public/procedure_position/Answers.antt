use Rattle.std.proofs.Common.{◌≡◌, IfOk, ℕ, ◌+◌, List, bytes_eq, unwrap_or, subst, ap, ◌∙◌}
use Rattle.std.specs.List.{position_from}
use Rattle.c_syntax.specs.Tree.{ProcedureTree}
use Rattle.emit_shape.specs.SystemTree.{SystemTree}
use Rattle.emit_linker.proofs.public.procedure_position.Goals as goal

pub returns : goal.returns
returns c =
    let named = λ (q : ProcedureTree). bytes_eq q.name c.args.name.now in
    let place = c.unwrap_or-place.ensures
    ∙ ap (λ o. unwrap_or o 0) (c.place_of.ensures
    ∙ ap (λ (ps : List ProcedureTree). position_from named 0 ps)
    (c.procedures_of.ensures ∙ ap (λ (s : SystemTree). s.procedures) c.at.ensures)) in
    subst (λ (n : ℕ). IfOk c.sum.result (λ k. k ≡ n))
    (λ j. c.first_procedure-first.ensures j + (c.in_ok-small.ensures ∙ place) j) c.sum.ensures
