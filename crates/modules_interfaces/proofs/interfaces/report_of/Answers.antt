use Rattle.diagram_meaning.specs.ResolvedTable.{table_of_tree}
use Rattle.modules_interfaces.proofs.interfaces.report_of.Goals as goal

pub returns-clause-report : goal.returns-clause-report
returns-clause-report c = record {
  resolved = table_of_tree c.in_ok-resolved.resolved;
  verdict = c.in_ok-resolved.ensures.accepted;
  report = c.in_ok-text_of.ensures;
}
