use Rattle.c_syntax.proofs.lemmas.PlainLaws.{expr_tree-Pure}
use Rattle.c_renaming.proofs.nodes.call_of_pure.Goals as goal

pub returns : goal.returns
returns c = expr_tree-Pure c.args.function c.args.values
