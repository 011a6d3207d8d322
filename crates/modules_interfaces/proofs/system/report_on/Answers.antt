use Rattle.std.proofs.Common.{◌∙◌, ap, map, length, List}
use Rattle.std.specs.Prelude.{Option, ℕ}
use Rattle.std.specs.List.{range_with_len}
use Rattle.base_core.specs.Ports.{control_ports}
use Rattle.diagram_meaning.specs.ResolvedTree.{diagram_of}
use Rattle.diagram_meaning.specs.Rows.{inports_of, outports_of, system_control}
use Rattle.modules_profile.specs.declared.profile.Function.{Function}
use Rattle.modules_interfaces.specs.Needs.{need_of}
use Rattle.modules_interfaces.proofs.SystemReports.{report-is}
use Rattle.modules_interfaces.proofs.system.report_on.Goals as goal

pub returns : goal.returns
returns c =
    let d = diagram_of c.args.r.now in
    let row = c.row_of-row.ensures in
    report-is d c.args.profile.now.row c.args.profile.now c.requires.profile _ c.deref.result.now row
    (c.inputs_of.ensures ∙ ap (λ (s : Option ℕ). length (inports_of d.rows s)) row)
    (c.in_ok-controls_of.ensures ∙ ap (λ (s : Option ℕ). control_ports (system_control d.rows s)) row)
    (c.outputs_of-outputs.ensures.is ∙ ap (λ (s : Option ℕ). length (outports_of d.rows s)) row)
    c.in_ok-copied.ensures
    (c.deref.ensures.value ∙ c.in_ok-needs.ensures.needs
    ∙ ap (λ (fs : List Function). map (need_of fs) (range_with_len 0 c.outputs_of-outputs.result)) c.functions_of.ensures)
    c.in_ok-certificate.ensures
