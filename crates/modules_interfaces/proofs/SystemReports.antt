-- The report on a system with a profile.
use Rattle.std.specs.Prelude.{◌≡◌, ℕ, List, length, map, Option}
use Rattle.std.specs.List.{range_with_len}
use Rattle.std.proofs.Common.{ap₂, subst, ◌∙◌, sym}
use Rattle.std.proofs.lemmas.Slice.Zip.{AllZip-long}
use Rattle.modules_certificate.specs.Sound.{IsCertificateFor}
use Rattle.diagram_meaning.specs.Diagram.{Diagram}
use Rattle.base_core.specs.Ports.{control_ports}
use Rattle.diagram_meaning.specs.Needs.{IsMaskOf, TrueNeeds}
use Rattle.diagram_meaning.specs.Rows.{inports_of, outports_of, system_control}
use Rattle.modules_profile.specs.declared.profile.Function.{Function}
use Rattle.modules_profile.specs.Functions.{IsProfileOf, functions_for}
use Rattle.modules_profile.specs.SystemProfile.{SystemProfile}
use Rattle.modules_report.specs.PlainReport.{PlainReport}
use Rattle.modules_report.specs.Reports.{IsReportOn}
use Rattle.modules_interfaces.specs.Needs.{need_of}
use Rattle.modules_interfaces.proofs.NeedLists.{needs-are}

module _ (d : Diagram) (s : Option ℕ) (profile : SystemProfile) (is : IsProfileOf d s profile) where
  -- its functions say the needs of its outputs
  needs-told : (outputs : ℕ) → outputs ≡ length (outports_of d.rows s) →
      map (need_of profile.functions) (range_with_len 0 outputs) ≡ is.needs
  needs-told outputs many =
      let long : length is.needs ≡ length (outports_of d.rows s) =
      AllZip-long (λ o mask. IsMaskOf (TrueNeeds d s o) mask) (outports_of d.rows s) is.needs is.are_needs in
      ap₂ (λ (fs : List Function) (n : ℕ). map (need_of fs) (range_with_len 0 n)) is.functions (many ∙ sym long) ∙ needs-are is.needs

  -- a report with what these functions say
  pub report-is : (report : PlainReport) (needs : List ℕ) → report.row ≡ s → report.inputs ≡ length (inports_of d.rows s) →
      report.controls ≡ control_ports (system_control d.rows s) → report.outputs ≡ length (outports_of d.rows s) →
      report.profile ≡ profile → needs ≡ map (need_of profile.functions) (range_with_len 0 report.outputs) →
      IsCertificateFor needs report.certificate → IsReportOn d s report
  report-is report needs row inputs controls outputs own told certificate = record {
    row = row;
    inputs = inputs;
    controls = controls;
    outputs = outputs;
    needs = is.needs;
    are_needs = is.are_needs;
    profile_row = subst (λ (p : SystemProfile). p.row ≡ s) (sym own) is.row;
    functions = subst (λ (p : SystemProfile). p.functions ≡ functions_for is.needs) (sym own) is.functions;
    certificate = subst (λ ns. IsCertificateFor ns report.certificate) (told ∙ needs-told report.outputs outputs) certificate;
  }
