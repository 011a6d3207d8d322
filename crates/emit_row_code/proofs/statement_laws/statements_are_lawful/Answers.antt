use Rattle.emit_row_code.proofs.lemmas.StatementRules.{statements_are_lawful}
use Rattle.emit_row_code.proofs.statement_laws.statements_are_lawful.Goals as goal

pub returns : goal.returns
returns c = statements_are_lawful
