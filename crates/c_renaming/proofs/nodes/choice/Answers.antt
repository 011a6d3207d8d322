use Rattle.c_syntax.proofs.lemmas.PlainLaws.{stmt_tree-If}
use Rattle.c_renaming.proofs.nodes.choice.Goals as goal

pub returns : goal.returns
returns c = stmt_tree-If c.args.line c.args.test c.args.yes c.args.no
