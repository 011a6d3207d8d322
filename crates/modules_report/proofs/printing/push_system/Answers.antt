use Rattle.std.proofs.Common.{◌≡◌, ap, ap₂, ◌∙◌, ℕ, List}
use Rattle.std.specs.String.{string_bytes}
use Rattle.base_core.specs.declared.Port.{Port}
use Rattle.modules_report.specs.declared.report.SystemReport.TheInside.{Inside}
use Rattle.modules_report.specs.PlainReport.{PlainReport}
use Rattle.modules_report.specs.Texts.{ports_with}
use Rattle.modules_report.proofs.Systems.{whole}
use Rattle.modules_report.proofs.printing.push_system.Goals as goal

pub returns : goal.returns
returns c =
    let inputs : _ ≡ c.args.report.now.inputs = ap (λ (i : Inside). i.inputs) c.report-inside.view_is
    ∙ ap (λ (r : PlainReport). r.inputs) c.report.view_is in
    let outputs : _ ≡ c.args.report.now.outputs = ap (λ (i : Inside). i.outputs) c.report-inside.view_is
    ∙ ap (λ (r : PlainReport). r.outputs) c.report.view_is in
    let controls : c.deref.result.now ≡ c.args.report.now.controls =
    c.deref.ensures.value ∙ ap (λ (i : Inside). i.controls.items) c.report-inside.view_is
    ∙ ap (λ (r : PlainReport). r.controls) c.report.view_is
    in
    let functions : c.deref-3.result.now ≡ c.args.report.now.profile.functions =
    c.deref-3.ensures.value ∙ ap (λ (i : Inside). i.profile.functions) c.report-inside.view_is
    ∙ ap (λ (r : PlainReport). r.profile.functions) c.report.view_is
    in
    let differ : c.deref-5.result.now ≡ c.args.report.now.certificate.differ =
    c.deref-5.ensures.value ∙ ap (λ (i : Inside). i.certificate.differ) c.report-inside.view_is
    ∙ ap (λ (r : PlainReport). r.certificate.differ) c.report.view_is
    in
    let ports = c.in_ok-ports.ensures ∙ ap₂ (λ (n : ℕ) (ps : List Port). ports_with n ps) inputs controls in
    whole c.args.report.now c.deref-2.result.now c.deref-4.result.now _ c.deref-3.result.now c.deref-5.result.now
    (string_bytes c.args.out.now) (string_bytes c.push_system_line.new.out) (string_bytes c.push_functions.new.out)
    (string_bytes c.push_differences.new.out)
    (c.deref-2.ensures.value ∙ ports) (c.deref-4.ensures.value ∙ ports) outputs
    functions differ c.in_ok-push_system_line.ensures c.in_ok-push_functions.ensures c.in_ok-push_differences.ensures
