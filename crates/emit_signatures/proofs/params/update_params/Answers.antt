use Rattle.std.proofs.Common.{◌≡◌, List, ◌∷◌, IfOk, map, ap, ap₂, ◌∙◌, subst}
use Rattle.base_core.specs.declared.base.Control.{Control}
use Rattle.base_core.specs.declared.base.Port.{Port}
use Rattle.base_fixed_point.specs.declared.types.FixType.{FixType}
use Rattle.modules_profile.specs.LocalSystem.{LocalSystem}
use Rattle.c_syntax.specs.Tree.{ParamTree}
use Rattle.emit_shape.specs.Heads.{now_param}
use Rattle.emit_system_spec.specs.Heads.{port_param}
use Rattle.emit_signatures.proofs.params.update_params.Goals as goal

pub returns : goal.returns
returns c =
    let control = ap (λ (s : LocalSystem). s.control) (c.local.view_is ∙ c.local-local.ensures) in
    let params : Control → List (Port × FixType) → List ParamTree = λ k ps. now_param ∷ map (port_param k) ps in
    subst (λ (l : List ParamTree). IfOk c.all_params.result (λ p. p ≡ l)) (ap₂ params control c.port_types.ensures)
    c.all_params.ensures
