use Rattle.c_syntax.proofs.lemmas.PlainLaws.{stmt_tree-If}
use Rattle.emit_row_code.proofs.statements.either_way.Goals as goal

pub returns : goal.returns
returns c = stmt_tree-If 0 c.args.test c.args.yes c.args.no
