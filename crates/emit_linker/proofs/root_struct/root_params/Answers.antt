use Rattle.std.proofs.Common.{◌≡◌, IfOk, List, map, subst, ap, ◌∙◌}
use Rattle.modules_profile.specs.Locals.{inports}
use Rattle.c_syntax.specs.Tree.{ParamTree}
use Rattle.c_syntax.specs.Plain.{param_trees}
use Rattle.emit_row_facts.specs.Ported.{ported_of}
use Rattle.emit_row_facts.proofs.lemmas.Steps.{map-map}
use Rattle.emit_linker.specs.Ports.{param_of}
use Rattle.emit_linker.proofs.root_struct.root_params.Goals as goal

pub returns : goal.returns
returns c =
    let ports = c.deref.ensures.value ∙ c.in_ok-inports.ensures in
    subst (λ (l : List ParamTree). IfOk c.params_for.result (λ v. param_trees v.items ≡ l))
    (ap (map param_of) ports ∙ map-map param_of ported_of (inports c.args.root.now)) c.params_for.ensures
