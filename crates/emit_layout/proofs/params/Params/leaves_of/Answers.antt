use Rattle.std.proofs.Common.{map, length, ◌≤◌, arith, sym, ap, ◌∙◌}
use Rattle.std.proofs.lemmas.List.{take_all}
use Rattle.c_syntax.specs.declared.code.CType.{CType}
use Rattle.c_syntax.specs.declared.code.Leaf.{Leaf}
use Rattle.c_syntax.specs.Tree.{ParamTree}
use Rattle.emit_system_spec.specs.Places.{param_leaf}
use Rattle.emit_layout.specs.declared.parameter.Parameter.{Parameter}
use Rattle.emit_layout.specs.Parameters.{named_param}
use Rattle.emit_row_facts.proofs.lemmas.Steps.{map-map}
use Rattle.emit_layout.proofs.params.Params.leaves_of.Goals as goal

pub returns : goal.returns
returns c =
    let items = c.deref-parameter-items.result.now in
    let i = c.loop-parameter.parameter-index in
    let leaf : ParamTree → Leaf = λ q. param_leaf c.args.self.now q.name in
    let all : length items ≤ i = let done = c.loop-parameter-test.false in omega (arith, done) in
    c.loop-parameter.invariant ∙ ap (map (λ (q : Parameter × CType). leaf (named_param q))) (take_all i items all
    ∙ c.deref-parameter-items.ensures.value)
    ∙ sym (map-map leaf named_param c.wanted.inside.list.items) ∙ ap (map leaf) c.wanted.view_is
