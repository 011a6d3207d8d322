use Rattle.emit_row_code.proofs.lemmas.StatementRules.{all_statements_are_shallow}
use Rattle.emit_row_code.proofs.statement_laws.all_statements_are_shallow.Goals as goal

pub returns : goal.returns
returns c = all_statements_are_shallow
