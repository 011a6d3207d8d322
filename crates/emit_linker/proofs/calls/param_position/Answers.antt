use Rattle.std.proofs.Common.{◌≡◌, IfOk, ℕ, List, bytes_eq, unwrap_or, subst, sym, ap, ◌∙◌}
use Rattle.c_syntax.specs.declared.code.CType.{CType}
use Rattle.c_syntax.specs.Tree.{ParamTree}
use Rattle.emit_row_facts.proofs.lemmas.Steps.{place-map}
use Rattle.emit_linker.proofs.calls.param_position.Goals as goal

pub returns : goal.returns
returns c =
    let named : List ℕ × CType → ParamTree = λ q. record { name = q.0; type = q.1 } in
    subst (λ (n : ℕ). IfOk c.small.result (λ k. k ≡ n))
    (c.unwrap_or.ensures ∙ ap (λ o. unwrap_or o 0)
    (c.place_of.ensures ∙ sym (place-map (λ (r : ParamTree). bytes_eq r.name c.args.name.now) named 0 c.args.params.now))) c.small.ensures
