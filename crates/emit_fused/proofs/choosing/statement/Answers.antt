use Rattle.c_syntax.proofs.lemmas.PlainLaws.{stmt_tree-If}
use Rattle.emit_fused.proofs.choosing.statement.Goals as goal

pub returns : goal.returns
returns c = stmt_tree-If c.args.c.line c.args.c.test c.args.c.yes c.args.c.no
