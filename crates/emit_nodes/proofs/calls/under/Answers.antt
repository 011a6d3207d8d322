use Rattle.std.proofs.Common.{◌∙◌, ap, map}
use Rattle.c_syntax.specs.Tree.{branch, stmts_of_list}
use Rattle.c_syntax.specs.Plain.{cond_tree, stmt_tree}
use Rattle.c_syntax.proofs.lemmas.PlainLaws.{stmt_tree-If}
use Rattle.emit_nodes.proofs.calls.under.Goals as goal

pub returns : goal.returns
returns c =
    stmt_tree-If 0 c.args.test c.args.yes c.new.result
    ∙ ap (λ l. branch 0 (cond_tree c.args.test) (stmts_of_list (map stmt_tree c.args.yes.items))
    (stmts_of_list (map stmt_tree l))) c.new.ensures.items
