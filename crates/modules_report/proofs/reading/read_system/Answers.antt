use Rattle.std.proofs.Common.{◌≡◌, ℕ, List, ◌++◌, inl, inr, refl, sym, ap, ap₂, subst, ◌∙◌}
use Rattle.std.specs.Prelude.{flat_map}
use Rattle.base_core.specs.declared.Port.{Port}
use Rattle.modules_certificate.specs.PlainCertificate.{PlainCertificate}
use Rattle.modules_certificate.specs.Sound.{IsCertificateFor}
use Rattle.modules_certificate.specs.declared.Difference.{Difference}
use Rattle.modules_profile.specs.declared.Function.{Function}
use Rattle.modules_report.specs.Following.{needs_of}
use Rattle.modules_report.specs.Heads.{IsHeadOf, head_ports}
use Rattle.modules_report.specs.PlainReport.{PlainReport}
use Rattle.modules_report.specs.Reports.{IsSetOf}
use Rattle.modules_report.specs.Stops.{StopsAtDifference, StopsAtFunction, StopsAtHead, StopsInSystem}
use Rattle.modules_report.specs.Texts.{differ_line, out_lines, ports_with}
use Rattle.modules_report.proofs.Handed.{handed}
use Rattle.modules_report.proofs.ReadSystems.{read-report, read-text}
use Rattle.modules_report.proofs.SameNeeds.{each-one}
use Rattle.modules_report.proofs.ToldReports.{stops-differences, stops-functions, told-head, told_report}
use Rattle.modules_report.proofs.reading.read_system.Goals as goal

abbrev report : goal.After-drop-ports-2 → PlainReport
report c = record {
  row = c.in_ok-head.head.row;
  inputs = c.in_ok-head.head.inputs;
  controls = c.in_ok-controls.controls.items;
  outputs = c.in_ok-head.head.outputs;
  profile = record { row = c.in_ok-head.head.row; functions = c.in_ok-functions.functions.items };
  certificate = c.in_ok-certificate.certificate;
}

is-head : (c : goal.After-drop-ports-2) → IsHeadOf (report c) c.in_ok-head.head
is-head c = record {
  row = refl;
  inputs = refl;
  outputs = refl;
  functions = sym c.in_ok-functions.ensures.functions.number;
  controls = sym c.in_ok-controls.ensures;
}

ports : (c : goal.After-drop-ports-2) → c.in_ok-ports.ports.items ≡ head_ports c.in_ok-head.head
ports c = c.in_ok-ports.ensures ∙ ap (λ (ps : List Port). ports_with c.in_ok-head.head.inputs ps) (c.deref.ensures.value
    ∙ c.in_ok-controls.ensures)

needs : (c : goal.After-drop-ports-2) → c.deref-4.result.now ≡ needs_of c.in_ok-head.head.outputs c.in_ok-functions.functions.items
needs c = c.deref-4.ensures.value ∙ c.in_ok-needs.ensures.needs
    ∙ ap (λ (fs : List Function). needs_of c.in_ok-head.head.outputs fs) c.deref-3.ensures.value

pub returns-clause-text : goal.returns-clause-text
returns-clause-text c =
    read-text (report c) c.in_ok-head.head (is-head c) c.in_ok-functions.functions.items c.in_ok-certificate.certificate.differ
    c.args.text.now c.in_ok-head.rest.now c.in_ok-functions.rest.now c.in_ok-rest.rest.now refl refl c.in_ok-head.ensures.text
    (c.in_ok-functions.ensures.text
    ∙ ap (λ (ps : List Port). out_lines ps c.in_ok-head.head.outputs 1 c.in_ok-functions.functions.items
    ++ c.in_ok-functions.rest.now) (c.deref-2.ensures.value ∙ ports c))
    (c.in_ok-rest.ensures.text
    ∙ ap₂ (λ (ps : List Port) (ds : List Difference). flat_map (differ_line ps) ds ++ c.in_ok-rest.rest.now)
    (c.deref-5.ensures.value ∙ ports c)
    (c.deref-6.ensures.value ∙ ap (λ (k : PlainCertificate). k.differ) c.certificate.view_is))

pub returns-clause-report : goal.returns-clause-report
returns-clause-report c =
    read-report (report c) c.in_ok-head.head (is-head c) c.in_ok-functions.functions.items c.in_ok-head.ensures.head
    c.in_ok-head.ensures.row refl refl
    (each-one (λ (f : Function). IsSetOf (head_ports c.in_ok-head.head) f.inputs) c.in_ok-functions.functions.items
    c.in_ok-functions.ensures.sets)
    c.in_ok-functions.ensures.functions
    (subst (λ (ns : List ℕ). IsCertificateFor ns c.in_ok-certificate.certificate) (needs c) c.in_ok-certificate.ensures)

pub read_functions-requires-clause-ports : goal.read_functions-requires-clause-ports
read_functions-requires-clause-ports c = c.deref-2.ensures.value ∙ c.in_ok-ports.ensures
    ∙ ap (λ (ps : List Port). ports_with c.in_ok-head.head.inputs ps) (c.deref.ensures.value ∙ c.in_ok-controls.ensures)

pub returns-in_err-head-clause-stops : goal.returns-in_err-head-clause-stops
returns-in_err-head-clause-stops c =
    handed c.from_residual.result c.in_err-head.field-0.0 (StopsAtHead c.args.text.now)
    (StopsInSystem c.args.text.now) c.from_residual.ensures.1
    (λ left at. inl at) c.in_err-head.ensures.stops

pub returns-in_err-functions-clause-stops : goal.returns-in_err-functions-clause-stops
returns-in_err-functions-clause-stops c =
    handed c.from_residual-in_err-functions.result c.in_err-functions.field-0.0 (StopsAtFunction c.in_ok-head.head c.in_ok-head.rest.now)
    (StopsInSystem c.args.text.now) c.from_residual-in_err-functions.ensures.1
    (λ left at.
    inr (inl
    (stops-functions c.in_ok-head.head c.args.text.now c.in_ok-head.rest.now left c.in_ok-head.ensures.row
    c.in_ok-head.ensures.head
    c.in_ok-head.ensures.text at)))
    c.in_err-functions.ensures.stops

pub returns-in_err-rest-clause-stops : goal.returns-in_err-rest-clause-stops
returns-in_err-rest-clause-stops c =
    let h = c.in_ok-head.head in let fs = c.in_ok-functions.functions.items in
    let is : IsHeadOf (told_report h c.in_ok-controls.controls.items fs c.in_ok-certificate.certificate) h =
    told-head h c.in_ok-controls.controls.items fs c.in_ok-certificate.certificate c.in_ok-controls.ensures
    c.in_ok-functions.ensures.functions.number in
    let are : c.in_ok-ports.ports.items ≡ head_ports h = c.in_ok-ports.ensures
    ∙ ap (λ (ps : List Port). ports_with h.inputs ps) (c.deref.ensures.value ∙ c.in_ok-controls.ensures) in
    let needs-are : c.deref-4.result.now ≡ needs_of h.outputs fs = c.deref-4.ensures.value ∙ c.in_ok-needs.ensures.needs
    ∙ ap (λ (gs : List Function). needs_of h.outputs gs) c.deref-3.ensures.value in
    let own = read-report (told_report h c.in_ok-controls.controls.items fs c.in_ok-certificate.certificate) h is fs
    c.in_ok-head.ensures.head c.in_ok-head.ensures.row refl refl
    (each-one (λ (f : Function). IsSetOf (head_ports h) f.inputs) fs c.in_ok-functions.ensures.sets)
    c.in_ok-functions.ensures.functions
    (subst (λ (ns : List ℕ). IsCertificateFor ns c.in_ok-certificate.certificate) needs-are c.in_ok-certificate.ensures) in
    handed c.from_residual-in_err-rest.result c.in_err-rest.field-0.0
    (StopsAtDifference c.deref-5.result.now c.deref-6.result.now c.in_ok-functions.rest.now) (StopsInSystem c.args.text.now)
    c.from_residual-in_err-rest.ensures.1
    (λ left at. inr (inr (stops-differences (told_report h c.in_ok-controls.controls.items fs c.in_ok-certificate.certificate) h is own
    c.deref-5.result.now fs c.deref-6.result.now c.args.text.now c.in_ok-head.rest.now c.in_ok-functions.rest.now left
    (c.deref-5.ensures.value ∙ are) refl (c.deref-6.ensures.value
    ∙ ap (λ (k : PlainCertificate). k.differ) c.certificate.view_is) c.in_ok-head.ensures.text
    (c.in_ok-functions.ensures.text
    ∙ ap (λ (ps : List Port). out_lines ps h.outputs 1 fs ++ c.in_ok-functions.rest.now) (c.deref-2.ensures.value ∙ are)
    ∙ ap (λ (ps : List Port). out_lines ps h.outputs 1 fs ++ c.in_ok-functions.rest.now) (sym (c.deref-5.ensures.value ∙ are))) at)))
    c.in_err-rest.ensures.stops
