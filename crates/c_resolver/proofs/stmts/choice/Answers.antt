use Rattle.std.proofs.Common.{◌∙◌, ap, map}
use Rattle.c_syntax.specs.declared.code.Cond.{Cond}
use Rattle.c_syntax.specs.Plain.{cond_tree, stmt_tree}
use Rattle.c_syntax.specs.Tree.{StmtTree, stmts_of_list}
use Rattle.c_syntax.proofs.lemmas.PlainLaws.{stmt_tree-If}
use Rattle.c_resolver.proofs.stmts.choice.Goals as goal

pub returns : goal.returns
returns c =
    stmt_tree-If c.args.line c.into_inner.result c.args.yes c.args.no
    ∙ ap (λ (test : Cond).
    StmtTree.branch c.args.line (cond_tree test) (stmts_of_list (map stmt_tree c.args.yes.items))
    (stmts_of_list (map stmt_tree c.args.no.items))) c.into_inner.ensures
