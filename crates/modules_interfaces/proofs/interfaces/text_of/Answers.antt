use Rattle.std.proofs.Common.{sym, subst, List, ◌∙◌, ap}
use Rattle.std.specs.Prelude.{All}
use Rattle.modules_report.specs.PlainReport.{PlainReport}
use Rattle.modules_report.specs.Reports.{IsReport}
use Rattle.modules_report.specs.Texts.{report_text}
use Rattle.modules_interfaces.proofs.interfaces.text_of.Goals as goal

pub print_report-requires : goal.print_report-requires
print_report-requires c = subst (λ (rs : List PlainReport). All IsReport rs) (sym c.deref.ensures.value) c.in_ok-reports.ensures.right

pub returns : goal.returns
returns c = record {
  reports = c.in_ok-reports.reports.items;
  each = c.in_ok-reports.ensures.each;
  is = c.in_ok-text.ensures ∙ ap (λ (rs : List PlainReport). report_text rs) c.deref.ensures.value;
}
