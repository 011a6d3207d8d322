use Rattle.modules_report.proofs.OnDiagram.{reports_on_are_right}
use Rattle.modules_report.proofs.laws.reports_on_are_right.Goals as goal

pub returns : goal.returns
returns c = reports_on_are_right
