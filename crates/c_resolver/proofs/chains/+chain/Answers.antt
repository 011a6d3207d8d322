use Rattle.std.proofs.Common.{sym, ◌∙◌, ap, map, max}
use Rattle.c_syntax.specs.Tree.{stmts_of_list}
use Rattle.c_syntax.specs.Plain.{stmt_tree}
use Rattle.c_syntax.specs.Chains.{stmt_chain, stmts_chain}
use Rattle.c_syntax.proofs.lemmas.PlainLaws.{stmt_tree-If}
use Rattle.c_resolver.proofs.chains.+chain.Goals as goal

pub stmt_chain-returns-in-If : goal.stmt_chain-returns-in-If
stmt_chain-returns-in-If t c =
    let i = c.in-If in
    let chains = c.args.chains.now in
    c.max.ensures ∙ (λ j. max (c.stmts_chain.ensures j) (c.stmts_chain-in-If.ensures j))
    ∙ (λ j. max (stmts_chain chains (stmts_of_list (map stmt_tree (c.deref.ensures.value j))))
    (stmts_chain chains (stmts_of_list (map stmt_tree (c.deref-in-If.ensures.value j)))))
    ∙ ap (stmt_chain chains) (sym (ap stmt_tree i.is ∙ stmt_tree-If i.line i.test i.yes i.no))
