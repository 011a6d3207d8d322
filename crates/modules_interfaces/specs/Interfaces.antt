-- The report on a model's file.
use Rattle.std.specs.Prelude.{ℕ, List}
use Rattle.diagram_meaning.specs.ResolvedTable.{ResolvedTable, diagram_of_table}
use Rattle.modules_report.specs.Reports.{IsReportText}
use Rattle.diagram_verdict.specs.Verdict.{Accepted, HasVerdict}

-- the file is accepted, and the text is that of the reports on all systems of the diagram of its
-- model
pub record IsReportOf (bytes text : List ℕ) : Type 0 where
  pub resolved : ResolvedTable
  pub verdict : HasVerdict bytes (Accepted resolved)
  pub report : IsReportText (diagram_of_table resolved) text
