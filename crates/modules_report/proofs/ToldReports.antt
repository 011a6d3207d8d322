-- The report that the lines of a system say, before those of the differences are read.
use Rattle.std.proofs.Common.{◌≡◌, ℕ, List, ◌++◌, length, refl, ap, subst, sym, ◌∙◌}
use Rattle.base_core.specs.declared.Port.{Port}
use Rattle.modules_certificate.specs.PlainCertificate.{PlainCertificate}
use Rattle.modules_certificate.specs.declared.Difference.{Difference}
use Rattle.modules_profile.specs.declared.Function.{Function}
use Rattle.modules_report.specs.declared.head.Head.{Head}
use Rattle.modules_report.specs.Following.{controls_with}
use Rattle.modules_report.specs.Heads.{IsHeadOf, IsPossible, head_ports, head_text}
use Rattle.modules_report.specs.PlainReport.{PlainReport}
use Rattle.modules_report.specs.Reading.{HasRow, IsSystemReport}
use Rattle.modules_report.specs.Stops.{StopsAtDifference, StopsAtFunction, StopsInDifferences, StopsInFunctions}
use Rattle.modules_report.specs.Texts.{out_lines, ports_of, system_line}
use Rattle.modules_report.proofs.SystemStops.{same-head, same-ports}

abbrev pub told_report : Head → List Port → List Function → PlainCertificate → PlainReport
told_report h controls functions certificate = record {
  row = h.row;
  inputs = h.inputs;
  controls = controls;
  outputs = h.outputs;
  profile = record { row = h.row; functions = functions };
  certificate = certificate;
}

pub told-head : (h : Head) (controls : List Port) (functions : List Function) (certificate : PlainCertificate) →
    controls ≡ controls_with h.enabled h.triggered → length functions ≡ h.functions →
    IsHeadOf (told_report h controls functions certificate) h
told-head h controls functions certificate are number = record {
  row = refl;
  inputs = refl;
  outputs = refl;
  functions = sym number;
  controls = sym are;
}

pub stops-functions : (h : Head) (text more : List ℕ) (left : ℕ) → HasRow h.row → IsPossible h → text ≡ head_text h ++ more →
    StopsAtFunction h more left → StopsInFunctions text left
stops-functions h text more left row possible e stops =
    record { head = h; row = row; possible = possible; more = more; text_is = e; stops = stops }

pub stops-differences : (r : PlainReport) (h : Head) → IsHeadOf r h → IsSystemReport r →
    (ports : List Port) (fs : List Function) (ds : List Difference)
    (text rest more : List ℕ) (left : ℕ) → ports ≡ head_ports h → fs ≡ r.profile.functions → ds ≡ r.certificate.differ →
    text ≡ head_text h ++ rest →
    rest ≡ out_lines ports h.outputs 1 fs ++ more → StopsAtDifference ports ds more left → StopsInDifferences text left
stops-differences r h is own ports fs ds text rest more left are fs-are ds-are e f stops = record {
  report = r;
  is = own;
  more = more;
  text_is = e ∙ (λ i. same-head r h is i ++ f i)
      ∙ ap (λ (t : List ℕ). system_line r ++ (t ++ more)) (λ i. out_lines ((are ∙ same-ports r h is) i) (is.outputs i) 1 (fs-are i));
  stops = subst (λ (ds' : List Difference). StopsAtDifference (ports_of r) ds' more left) ds-are
      (subst (λ (ps : List Port). StopsAtDifference ps ds more left) (are ∙ same-ports r h is) stops);
}
