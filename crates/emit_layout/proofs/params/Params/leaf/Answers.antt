use Rattle.std.proofs.Common.{List, bytes_eq, arith, sym, ap, ◌∙◌}
use Rattle.std.specs.List.{position_from}
use Rattle.std.specs.Option.{unwrap_or}
use Rattle.c_syntax.specs.declared.code.CType.{CType}
use Rattle.c_syntax.specs.declared.code.Leaf.TheVariants.{Param}
use Rattle.c_syntax.specs.Tree.{ParamTree}
use Rattle.emit_system_spec.specs.Places.{param_leaf}
use Rattle.emit_layout.specs.declared.parameter.Parameter.{Parameter}
use Rattle.emit_layout.specs.Parameters.{param_name, named_param}
use Rattle.emit_row_facts.proofs.lemmas.Steps.{place-within, place-map}
use Rattle.emit_layout.proofs.params.Params.leaf.Goals as goal

pub overflow_cast-result : goal.overflow_cast-result
overflow_cast-result c =
    let list = c.deref.result.now in
    let at = place-within (λ (q : Parameter × CType). bytes_eq (param_name q.0) (param_name c.args.wanted)) list in
    let told = c.unwrap_or.ensures ∙ ap (λ o. unwrap_or o 0) c.place_of.ensures in
    omega (arith, at, told)

pub returns : goal.returns
returns c =
    let list = c.self.inside.list.items in
    let name = param_name c.args.wanted in
    let told =
    c.place_of.ensures
    ∙ ap (λ (qs : List (Parameter × CType)). position_from
    (λ (q : Parameter × CType). bytes_eq (param_name q.0) name) 0 qs) c.deref.ensures.value
    ∙ sym (place-map (λ (q : ParamTree). bytes_eq q.name name) named_param 0 list) in
    ap Param (c.unwrap_or.ensures ∙ ap (λ o. unwrap_or o 0) told) ∙ ap (λ (ps : List ParamTree). param_leaf ps name) c.self.view_is
