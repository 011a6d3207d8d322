use Rattle.std.proofs.Common.{◌≡◌, ℕ, List, ◌∷◌, IfOk, slice_get, ap, ◌∙◌, subst}
use Rattle.std.specs.List.{filter_map}
use Rattle.std.specs.Option.{option_and_then}
use Rattle.base_core.specs.declared.base.Control.{Control}
use Rattle.base_core.specs.declared.base.Port.{Port}
use Rattle.base_fixed_point.specs.declared.types.FixType.{FixType}
use Rattle.modules_profile.specs.LocalSystem.{LocalSystem}
use Rattle.c_syntax.specs.Tree.{ParamTree}
use Rattle.emit_shape.specs.Heads.{now_param}
use Rattle.emit_system_spec.specs.declared.node.Place.{Place}
use Rattle.emit_system_spec.specs.Groups.{group_nodes}
use Rattle.emit_system_spec.specs.Heads.{inport_at, inports_among, params_where, takes}
use Rattle.emit_system_spec.specs.Places.{node_places}
use Rattle.emit_signatures.proofs.params.group_params.Goals as goal

pub returns : goal.returns
returns c =
    let of = c.args.layout.now in
    let control = ap (λ (s : LocalSystem). s.control) (c.local.view_is ∙ c.local-local.ensures) in
    let nodes = c.group_nodes-nodes.result.now in
    let ports = c.port_types.result.now in
    let among : LocalSystem → List Place → List ℕ → List ℕ =
    λ s ps ns. filter_map (λ n. option_and_then (inport_at s) (slice_get ps n)) ns in
    let inports =
    c.deref.ensures.value ∙ c.in_ok-inports.ensures
    ∙ ap (λ (s : LocalSystem). among s c.node_places.result.now nodes) c.local-local.ensures
    ∙ ap (λ (ps : List Place). among of.local ps nodes) c.node_places.ensures
    ∙ ap (among of.local (node_places of.local)) c.group_nodes-nodes.ensures in
    let params : Control → List ℕ → List (Port × FixType) → List ParamTree = λ k is ps. now_param ∷ params_where k (takes is) ps in
    subst (λ (l : List ParamTree). IfOk c.params_of_ports.result (λ p. p ≡ l))
    (ap (λ (k : Control). params k c.deref.result.now ports) control
    ∙ ap (λ (is : List ℕ). params of.local.control is ports) inports
    ∙ ap (params of.local.control (inports_among of.local (group_nodes of.schedule c.args.group))) c.port_types.ensures)
    c.params_of_ports.ensures
