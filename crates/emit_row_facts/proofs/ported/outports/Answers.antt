use Rattle.std.proofs.Common.{◌≡◌, IfOk, List, subst, ap, ◌∙◌}
use Rattle.diagram_blocks.specs.Kinds.{is_outport}
use Rattle.modules_profile.specs.LocalSystem.{LocalSystem}
use Rattle.emit_row_facts.specs.declared.ported.Ported.{Ported}
use Rattle.emit_row_facts.specs.Ported.{by_port, ported_among}
use Rattle.emit_row_facts.proofs.ByPort.{by-port-is}
use Rattle.emit_row_facts.proofs.ported.outports.Goals as goal

pub returns : goal.returns
returns c =
    let rows = c.as_slice.ensures.value ∙ ap (λ (s : LocalSystem). s.rows) c.local.view_is in
    let among = c.deref.ensures.value ∙ c.in_ok-among.ensures ∙ ap (ported_among is_outport) rows in
    subst (λ (l : List Ported). IfOk c.by_port.result (λ v. v.items ≡ l)) (ap by_port among
    ∙ by-port-is c.args.local.now is_outport) c.by_port.ensures
