use Rattle.std.proofs.Common.{List, ◌++◌, length, map, ap, ap₂, ◌∙◌}
use Rattle.std.specs.List.{range_with_len, zip}
use Rattle.base_core.specs.declared.base.Control.{Control}
use Rattle.base_core.specs.declared.base.Port.{Port}
use Rattle.base_core.specs.declared.base.Port.TheVariants.{Number}
use Rattle.base_fixed_point.specs.declared.types.FixType.{FixType}
use Rattle.modules_profile.specs.LocalSystem.{LocalSystem}
use Rattle.modules_profile.specs.Locals.{inports}
use Rattle.base_core.specs.Ports.{control_ports}
use Rattle.emit_row_facts.specs.declared.ported.Ported.{Ported}
use Rattle.emit_row_facts.specs.Ported.{ported_of}
use Rattle.emit_layout_tables.proofs.PortTypes.{port-types-are}
use Rattle.emit_layout_tables.proofs.ports.port_types.Goals as goal

pub returns : goal.returns
returns c =
    let local = c.args.local.now in
    let inports_are = c.deref.ensures.value ∙ c.in_ok-inports.ensures in
    let types =
    c.in_ok-ports.ensures
    ∙ ap (λ (ps : List Ported). zip (map Number (range_with_len 1 (length ps))) (map (λ (e : Ported). e.out) ps))
    inports_are in
    c.in_ok-push_controls.ensures
    ∙ ap (λ (ps : List (Port × FixType)). ps ++ zip (control_ports c.local.inside.control) c.as_slice.result.now) types
    ∙ ap₂ (λ (k : Control) (ts : List FixType). zip
    (map Number (range_with_len 1 (length (map ported_of (inports local)))))
    (map (λ (e : Ported). e.out) (map ported_of (inports local))) ++ zip (control_ports k) ts)
    (ap (λ (s : LocalSystem). s.control) c.local.view_is) (c.as_slice.ensures.value ∙ ap (λ (s : LocalSystem). s.controls) c.local.view_is)
    ∙ port-types-are local
