use Rattle.c_syntax.proofs.lemmas.PlainLaws.{expr_tree-Pure}
use Rattle.emit_linker.proofs.exprs.call_of_pure.Goals as goal

pub returns : goal.returns
returns c = expr_tree-Pure c.args.k c.args.values
