use Rattle.std.proofs.Common.{◌∙◌, ap}
use Rattle.c_syntax.specs.Plain.{stmt_tree}
use Rattle.c_syntax.proofs.lemmas.PlainLaws.{stmt_tree-If}
use Rattle.emit_fused.proofs.choosing.choice_of.Goals as goal

pub returns-in-If-clause-choice : goal.returns-in-If-clause-choice
returns-in-If-clause-choice c = let i = c.in-If in ap stmt_tree i.is ∙ stmt_tree-If i.line i.test i.yes i.no
