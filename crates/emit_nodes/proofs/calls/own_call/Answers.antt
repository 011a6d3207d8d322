use Rattle.std.proofs.Common.{◌∙◌, ap, map}
use Rattle.c_syntax.specs.declared.code.Target.TheVariants.{Own}
use Rattle.c_syntax.specs.Tree.{call, exprs_of_list, read, ParamTree}
use Rattle.emit_system_spec.specs.Places.{param_leaf}
use Rattle.emit_row_facts.proofs.lemmas.Steps.{map-map}
use Rattle.emit_nodes.proofs.calls.own_call.Goals as goal

pub returns : goal.returns
returns c =
    ap (λ es. call 0 c.args.procedure Own (exprs_of_list es))
    (c.in_ok-reads.ensures ∙ ap (map read) (c.deref.ensures.value ∙ c.in_ok-leaves.ensures)
    ∙ map-map read (λ (q : ParamTree). param_leaf c.args.params.now q.name) c.args.wanted.now)
