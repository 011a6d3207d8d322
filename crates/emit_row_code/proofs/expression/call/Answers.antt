use Rattle.c_syntax.proofs.lemmas.PlainLaws.{expr_tree-Pure}
use Rattle.emit_row_code.proofs.expression.call.Goals as goal

pub returns : goal.returns
returns c = expr_tree-Pure c.args.function c.args.values
