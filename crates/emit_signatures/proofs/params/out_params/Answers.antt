use Rattle.std.proofs.Common.{◌≡◌, ◌-◌, List, ◌∷◌, All, IfOk, get_or, sym, ap, ◌∙◌, subst}
use Rattle.base_core.specs.declared.base.Control.{Control}
use Rattle.base_core.specs.declared.base.Port.{Port}
use Rattle.base_fixed_point.specs.declared.types.FixType.{FixType}
use Rattle.modules_profile.specs.declared.profile.Function.{Function}
use Rattle.modules_profile.specs.LocalSystem.{LocalSystem}
use Rattle.modules_profile.specs.SystemProfile.{SystemProfile}
use Rattle.base_core.specs.Ports.{bit_of, has_bit}
use Rattle.c_syntax.specs.Tree.{ParamTree}
use Rattle.emit_shape.specs.Heads.{now_param}
use Rattle.emit_system_spec.specs.Heads.{params_where}
use Rattle.emit_signatures.proofs.OutParams.{out-params-are}
use Rattle.emit_signatures.proofs.TakenPorts.{IsLow, ports-low}
use Rattle.emit_signatures.proofs.params.out_params.Goals as goal

pub params_of_function-requires : goal.params_of_function-requires
params_of_function-requires c =
    let of = c.args.layout.now in
    subst (λ (ps : List (Port × FixType)). All IsLow ps) (sym c.port_types.ensures)
    (ports-low of.local of.profile c.is_emittable.ensures.inputs)

pub returns : goal.returns
returns c =
    let of = c.args.layout.now in
    let control = ap (λ (s : LocalSystem). s.control) (c.local.view_is ∙ c.local-local.ensures) in
    let ports = c.port_types.result.now in
    let f = c.index-function.result.now in
    let functions = ap (λ (p : SystemProfile). p.functions) (c.profile.view_is ∙ c.profile-profile.ensures) in
    let read = c.index-function.ensures ∙ ap (λ (fs : List Function). get_or fs (c.args.j - 1) f) functions in
    subst (λ (l : List ParamTree). IfOk c.params_of_function.result (λ p. p ≡ l))
    (ap (λ (k : Control). now_param ∷ params_where k (λ p. has_bit f.inputs (bit_of p)) ports) control
    ∙ out-params-are of.local of.profile c.args.j f ports c.requires.first c.requires.last read c.port_types.ensures)
    c.params_of_function.ensures
