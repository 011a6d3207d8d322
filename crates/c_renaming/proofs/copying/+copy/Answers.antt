use Rattle.std.proofs.Common.{sym, ◌∙◌, ap, map, arith}
use Rattle.c_syntax.specs.Tree.{pure, exprs_of_list}
use Rattle.c_syntax.specs.Plain.{expr_tree}
use Rattle.c_syntax.proofs.lemmas.PlainLaws.{expr_tree-Pure}
use Rattle.std.proofs.lemmas.List.{take_all}
use Rattle.c_renaming.proofs.Rows.{row}
use Rattle.c_renaming.proofs.copying.+copy.Goals as goal

pub copied_expr-returns-in_ok-values-in-Pure : goal.copied_expr-returns-in_ok-values-in-Pure
copied_expr-returns-in_ok-values-in-Pure t c =
    let i = c.in-Pure in
    c.call_of_pure.ensures
    ∙ ap (pure i.function) (ap exprs_of_list c.in_ok-values-in-Pure.ensures ∙ ap row c.as_slice.ensures.value)
    ∙ sym (ap expr_tree i.is ∙ expr_tree-Pure i.function i.values)

pub copied_exprs-returns : goal.copied_exprs-returns
copied_exprs-returns t c =
    c.loop-e.invariant ∙ ap (map expr_tree) (take_all c.loop-e.e-index c.args.es.now (omega (arith, c.loop-e-test.false)))
